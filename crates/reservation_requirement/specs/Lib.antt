pub mod Requirement
