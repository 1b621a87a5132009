pub mod RequestPlan
