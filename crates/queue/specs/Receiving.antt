-- A delivery whose body a reader gives: what was read of it, and what becomes of it. The definitions are those of `history`.
pub use Rattle.history.specs.Receiving.{Gave, IsAsBefore, IsReceived, IsRefusedFor, LeavesReceived}
