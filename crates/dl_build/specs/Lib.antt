pub mod Moved
pub mod Build
pub mod Document01
