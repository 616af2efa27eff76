use Rattle.std.proofs.Common.{◌≡◌, drop}
use Rattle.std.specs.List.{list_any}
use Rattle.tables.specs.Rows.{rows_of}
use Rattle.keep_tables.specs.Finishing.{is_among}
use Rattle.keep_tables.proofs.opening.unfinished.files_name.Given as goal

abbrev pub invariant-loop-row : goal.invariant-loop-row
invariant-loop-row l =
    list_any (λ f. is_among l.ids f.body) (rows_of (drop l.row-index l.files)) ≡ list_any (λ f. is_among l.ids f.body) (rows_of l.files)
