pub mod ReaderLemmas
pub mod Stored
