-- Names with prints, in order, among which one is looked up.
use Rattle.std.specs.Prelude.{ℕ, Bool, ◌&&◌, List, bytes_eq}
use Rattle.std.specs.List.{list_any}
use Rattle.std.specs.List.Sorted.{IsSortedByKey}
use Rattle.book.specs.declared.change.Judgement.{Judgement}
use Rattle.book.specs.Book.{judging_order}
use Rattle.sums.specs.declared.entries.Entry.{Entry}
use Rattle.sums.specs.declared.print.Print.{Print}
use Rattle.sums.specs.Prints.{same_print}
use Rattle.tables_audit.specs.declared.uploads.arrived.Arrived.{Arrived}
use Rattle.tables_audit.specs.declared.uploads.signs.Sign.{Sign}

-- a name and a print
abbrev pub SignValue : Type 0
SignValue = List ℕ × Print

abbrev pub sign_of : Sign → SignValue
sign_of s = (s.name.now, s.print)

-- the name and the print of a judgement, of what arrived, and of a listed file
abbrev pub judgement_sign : Judgement → SignValue
judgement_sign j = (j.name, j.print)

abbrev pub arrived_sign : Arrived → SignValue
arrived_sign a = (a.arrival.now.name, a.print)

abbrev pub entry_sign : Entry → SignValue
entry_sign e = (e.name, e.print)

-- the names and the prints stand in the order of judging
abbrev pub AreInOrder : List Sign → Type 0
AreInOrder = IsSortedByKey sign_of judging_order

-- the name and the print are among these
abbrev pub has_sign : List SignValue → SignValue → Bool
has_sign signs s = list_any (λ r. bytes_eq r.0 s.0 && same_print r.1 s.1) signs
