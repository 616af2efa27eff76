pub mod Copying
pub mod Placed
pub mod Bodied
pub mod Books
pub mod Old
pub mod Rising
pub mod Settling
pub mod Text
