pub mod SlotrunHistory
