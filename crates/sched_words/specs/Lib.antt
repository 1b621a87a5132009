pub mod FieldLaws
pub mod Front
pub mod Words
