pub mod Merge
pub mod Places
