pub mod Searches
pub mod Listings
pub mod Differing
pub mod Rows
pub mod Refused
