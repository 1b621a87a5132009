pub mod ZeroLaws
pub mod CellLaws
pub mod CellBits
pub mod OctetLaws
