pub mod Told
pub mod Progress
