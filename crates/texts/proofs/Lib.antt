pub mod Printed
pub mod Appended
pub mod Joined
pub mod Fixtures
pub mod Days
