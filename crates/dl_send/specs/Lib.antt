pub mod Send
pub mod Arrays
pub mod Carried
pub mod Document01
