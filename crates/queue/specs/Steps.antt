-- What a call of the archive leaves of its keeper. The definitions are those of `history`.
pub use Rattle.history.specs.Steps.{Does, DoesAll, IsLeftAlong, IsOpenBehind, IsServed, IsUndone, Lasts, LeavesCall, LeavesRun, Reads}
