pub mod Queue
pub mod Questions
