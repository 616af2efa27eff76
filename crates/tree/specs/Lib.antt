pub mod Tree
pub mod Files
pub mod Planned
pub mod Promised
