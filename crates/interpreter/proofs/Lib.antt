pub mod TextLaws
pub mod StepLaws
pub mod RunLaws
pub mod CutLaws
pub mod TurnLaws
