pub mod Failing
pub mod Layouts
pub mod Pairs
pub mod Shown
