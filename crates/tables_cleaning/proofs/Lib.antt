pub mod CurrentLemmas
pub mod CurrentUploads
pub mod CleanedArchive
pub mod GoneLemmas
pub mod CleanedRows
pub mod CleanedFinished
pub mod CleanCalls
