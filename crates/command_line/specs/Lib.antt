pub mod CommandLines
pub mod Fault
pub mod Keys
