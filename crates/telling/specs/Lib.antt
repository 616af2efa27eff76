pub mod Course
pub mod Fault
pub mod Told
pub mod Why
pub mod Whole
