pub mod HeaderLaws
pub mod ListLaws
pub mod WriteLaws
pub mod HeaderRoundTrip
pub mod ReadThenWrite
