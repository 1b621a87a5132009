pub mod Chunks
pub mod Laws
pub mod Octets
pub mod Writes
