pub mod Listing
pub mod Json
pub mod Fields
pub mod Explaining
