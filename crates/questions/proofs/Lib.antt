pub mod AskLaws
pub mod NumberLaws
