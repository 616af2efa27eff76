pub mod Looked
pub mod Steps
pub mod Plain
pub mod Ends
