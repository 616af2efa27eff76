use Rattle.std.proofs.Common.{◌≡◌, drop}
use Rattle.std.specs.List.{list_any}
use Rattle.renewing.specs.Renewal.{is_listed}
use Rattle.renewing.proofs.renewal.lists_some.Given as goal

abbrev pub invariant-loop-entry : goal.invariant-loop-entry
invariant-loop-entry l = list_any (is_listed l.suite l.place) (drop l.entry-index l.entries) ≡ list_any (is_listed l.suite l.place) l.entries
