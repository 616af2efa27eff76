-- Which uploads that wait are whole.
use Rattle.std.specs.Prelude.{ℕ, Bool, List}
use Rattle.para.specs.Bytes.{is_nil}
use Rattle.sums.specs.declared.print.Print.{Print}
use Rattle.book.specs.declared.change.Waiting.{Waiting}

-- nothing lacks, of which `why` has the line `whole`
abbrev pub is_whole : Waiting → Bool
is_whole w = is_nil w.lacks

-- the name and the print of its .changes
abbrev pub sign_of_waiting : Waiting → List ℕ × Print
sign_of_waiting w = (w.name, w.print)
