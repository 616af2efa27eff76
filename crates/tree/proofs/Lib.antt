pub mod Walks
pub mod Sound
pub mod Ends
pub mod Plans
pub mod PoolFiles
pub mod Loops
