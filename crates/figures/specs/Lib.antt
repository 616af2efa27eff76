pub mod Numbers
pub mod Keys
pub mod Families
pub mod Printing
pub mod Example
