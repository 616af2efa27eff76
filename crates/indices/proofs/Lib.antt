pub mod Pairs
pub mod Apart
pub mod Found
pub mod Walk
pub mod Paths
pub mod Listing
mod Counted
