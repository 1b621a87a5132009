pub mod TurnLaws
pub mod NowLaws
pub mod LineLaws
