pub mod Basics
pub mod TimeLaws
pub mod SlotLaws
pub mod UsableLaws
