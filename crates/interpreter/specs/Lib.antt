pub mod Text
pub mod Slotrun
pub mod Turns
pub mod Runs
