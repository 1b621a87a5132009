pub mod AskedLaws
pub mod LentLaws
pub mod LeftLaws
pub mod BuildLeftLaws
pub mod BufferLaws
