pub mod HalfSlot
pub mod Search
pub mod UplinkEntry
pub mod Uplink
pub mod Request
pub mod Functions
pub mod GrantedExactly
