pub mod AlikeSuites
pub mod FoundedRows
pub mod CopiedRows
pub mod MovedArchive
pub mod WrittenLemmas
pub mod HeldLemmas
pub mod MadeLemmas
pub mod OverLemmas
