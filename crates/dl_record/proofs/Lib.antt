pub mod Tests
pub mod RecordLaws
pub mod HeaderLaws
pub mod QuestionLaws
