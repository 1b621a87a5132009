pub mod CellLaws
pub mod EntryLaws
