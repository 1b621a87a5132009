pub mod StationLaws
pub mod QuestionLaws
pub mod GrantLaws
pub mod QueuesLaws
pub mod KeptLaws
pub mod ReplyLaws
pub mod RequestGranted
