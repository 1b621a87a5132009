pub mod Station
pub mod Questions
pub mod Replies
pub mod Calls
pub mod Invariant
pub mod RequestGranted
