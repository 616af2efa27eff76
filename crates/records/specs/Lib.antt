pub mod Names
pub mod FieldNames
pub mod Values
pub mod Fault
pub mod Records
