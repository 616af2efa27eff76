pub mod Listed
pub mod Calendar
pub mod Stanzas
pub mod Release
pub mod Positions
pub mod Places
pub mod Indices
pub mod Counting
