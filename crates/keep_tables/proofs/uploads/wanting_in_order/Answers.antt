use Rattle.std.proofs.Common.{ap, ◌∙◌}
use Rattle.tables_meaning.specs.Reads.{row_order, sorted_by}
use Rattle.keep_tables.specs.Moments.{rows_at}
use Rattle.keep_tables.proofs.uploads.wanting_in_order.Goals as goal

pub returns-clause-ok : goal.returns-clause-ok
unfolding rows_at
returns-clause-ok g c clean t was =
    let read = c.in_ok-rows.ensures.ok clean t was in
    (c.in_ok-sorted.ensures ∙ ap (sorted_by row_order) read.0, read.1)
