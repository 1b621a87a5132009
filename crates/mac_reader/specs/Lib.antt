pub mod Reader
pub mod PduList
pub mod Stands
