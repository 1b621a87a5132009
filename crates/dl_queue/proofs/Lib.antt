pub mod PlaceLaws
pub mod QueueLaws
pub mod PasteLaws
pub mod PushLaws
pub mod SetLaws
pub mod SoundLaws
pub mod EnqueueLaws
