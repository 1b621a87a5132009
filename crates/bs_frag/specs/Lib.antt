pub mod NextPdu
