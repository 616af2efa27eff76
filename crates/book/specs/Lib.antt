pub mod Fault
pub mod Book
pub mod Configured
pub mod Keeping
pub mod Pieces
pub mod Scan
pub mod Groups
pub mod Sorted
