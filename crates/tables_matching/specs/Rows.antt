-- What rows of texts and of wants say.
use Rattle.std.specs.Prelude.{ℕ, Bool, List}
use Rattle.sums.specs.declared.entries.Entry.{Entry}
use Rattle.sums.specs.declared.print.Print.{Print}
use Rattle.tables.specs.declared.rows.TextRow.{TextRow}
use Rattle.tables.specs.declared.rows.Want.{Want}

-- the path and the text of a row
abbrev pub text_in : TextRow → List ℕ × List ℕ
text_in x = (x.path, x.body)

-- the name and the print that an upload wants, and whether they are there
abbrev pub want_row : Want → List ℕ × Print × Bool
want_row w = (w.name, w.print, w.here)

-- what the row of a listed file has to say
abbrev pub listed_row : Entry → Bool → List ℕ × Print × Bool
listed_row e here = (e.name, e.print, here)
