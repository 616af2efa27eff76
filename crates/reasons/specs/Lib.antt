pub mod Named
pub mod Differences
pub mod Reasons
