pub mod KnownLemmas
pub mod RemovedLemmas
pub mod UnusedLemmas
pub mod SparedLemmas
pub mod CleanLemmas
pub mod ArrivedLemmas
pub mod AtOnceLemmas
pub mod ThinnedLemmas
