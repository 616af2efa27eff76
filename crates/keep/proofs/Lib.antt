pub mod Files
pub mod Unjudged
pub mod UploadLemmas
pub mod Amending
pub mod Kept
pub mod Searches
