pub mod TurnedLaws
