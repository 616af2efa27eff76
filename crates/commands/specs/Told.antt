-- Answers as they are printed.
use Rattle.std.specs.Prelude.{ℕ, Bool, List, Option, Ok, Some}
use Rattle.std.specs.Io.KnownBytes.{Appends}
use Rattle.book.specs.Book.{Book}
use Rattle.telling.specs.Told.{Asking, IsTold}

-- The answer of a book at a moment is the text that was appended to an output.
pub record IsPrinted (may_fail : Bool) (book : Book) (asking : Asking) (moment : ℕ) (old new : Option (List ℕ)) : Type 0 where
  pub text : List ℕ
  pub told : IsTold may_fail book asking moment (Ok (Some text))
  pub appended : Appends old new text
