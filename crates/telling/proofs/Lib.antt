pub mod CourseLemmas
pub mod LineLemmas
pub mod ShownLemmas
pub mod SuiteLemmas
pub mod TextLemmas
pub mod WholeLemmas
