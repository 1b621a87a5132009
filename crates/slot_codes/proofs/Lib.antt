pub mod TableLaws
pub mod CodesLaws
