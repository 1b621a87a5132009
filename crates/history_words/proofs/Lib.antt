pub mod TagLaws
pub mod WordSteps
pub mod WordHistory
