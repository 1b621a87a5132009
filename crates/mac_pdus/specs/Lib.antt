pub mod Headers
pub mod Within
pub mod Legal
