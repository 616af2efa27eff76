-- What the plain archive answers, and the theorem on a step and on a list of commands. The definitions are those of `history`.
pub use Rattle.history.specs.Answers.{IsFaithful, IsKept, IsRun, answer, copy_line}
