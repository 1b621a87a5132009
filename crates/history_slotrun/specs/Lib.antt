pub mod Events
pub mod SlotrunHistory
