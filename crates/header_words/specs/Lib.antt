pub mod HeaderWords
