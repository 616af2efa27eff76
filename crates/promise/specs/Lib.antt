pub mod Lists
pub mod Configured
pub mod Stops
