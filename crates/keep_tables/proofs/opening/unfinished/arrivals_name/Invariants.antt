use Rattle.std.proofs.Common.{◌≡◌, drop}
use Rattle.std.specs.List.{list_any}
use Rattle.tables.specs.Rows.{rows_of}
use Rattle.keep_tables.specs.Finishing.{is_among}
use Rattle.keep_tables.proofs.opening.unfinished.arrivals_name.Given as goal

abbrev pub invariant-loop-row : goal.invariant-loop-row
invariant-loop-row l =
    list_any (λ a. is_among l.ids a.body) (rows_of (drop l.row-index l.arrivals)) ≡ list_any (λ a. is_among l.ids a.body) (rows_of l.arrivals)
