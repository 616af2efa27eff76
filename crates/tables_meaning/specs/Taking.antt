-- What the taking of a delivery asks of the rows.
use Rattle.std.specs.Prelude.{◌≡◌, ℕ, List, if◌then◌else◌, Option, Some, None, option_map}
use Rattle.std.specs.Result.{result_ok}
use Rattle.records.specs.Records.{changes_in}
use Rattle.sums.specs.declared.entries.Entry.{Entry}
use Rattle.sums.specs.declared.print.Print.{Print}
use Rattle.sums.specs.FileNames.{is_changes_name}
use Rattle.tables.specs.Bodies.{body_with}
use Rattle.tables.specs.Rows.{Tables}
use Rattle.tables_meaning.specs.Kept.{bytes_of}

-- A body of this print that is stored has these bytes.
abbrev pub HasNoOther : Print → List ℕ → Tables → Type 0
HasNoOther print bytes t = (found : ℕ) → body_with print t.bodies ≡ Some found → bytes_of t found ≡ bytes

-- what a file of this name lists: the entries of the record if the file is a .changes
abbrev pub listed_in : List ℕ → List ℕ → Option (List Entry)
listed_in name bytes = if is_changes_name name then option_map (λ c. c.entries) (result_ok (changes_in bytes)) else None
