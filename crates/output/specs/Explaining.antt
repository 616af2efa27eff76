-- Why uploads have their verdicts, and what the waiting ones lack: as lines, and as objects.
pub mod Words
pub mod Sentences
pub mod About
pub mod Items
pub mod Judged
pub mod Answers
pub mod Waits
