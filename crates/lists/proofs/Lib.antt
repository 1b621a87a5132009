pub mod Every
pub mod Lists
