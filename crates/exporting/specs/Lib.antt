pub mod Fetched
pub mod Web
