pub mod SlotgrantLaws
