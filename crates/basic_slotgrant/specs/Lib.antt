pub mod Slotgrant
