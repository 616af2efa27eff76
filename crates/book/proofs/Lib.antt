pub mod Dates
pub mod Finds
pub mod Prints
pub mod Arrivals
pub mod Signs
pub mod Staying
pub mod ReadLemmas
pub mod Pieces
pub mod Moments
pub mod Lists
pub mod Lacks
mod GroupLemmas
pub mod Sorting
