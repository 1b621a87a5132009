pub mod MergeLaws
pub mod NameLaws
pub mod ListLaws
pub mod TurnLaws
pub mod SoundMerge
