pub mod Instead
pub mod Named
pub mod Reading
