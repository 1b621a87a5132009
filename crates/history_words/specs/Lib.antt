pub mod WordCalls
pub mod WordHistory
