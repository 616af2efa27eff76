-- What definitions see of commands and of what they answer. The definitions are those of `history`.
pub use Rattle.history.specs.Commands.{AreOfKinds, call_of, copies_of, counted, found, is_new, lines_of, outcome_of, promoted, reported, stored}
