pub mod HeaderLaws
pub mod Laws
pub mod LengthLaws
