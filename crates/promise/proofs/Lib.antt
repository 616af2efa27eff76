pub mod Configurations
pub mod Courses
pub mod Stops
pub mod Refusals
