pub mod Exports
pub mod Buffers
