use Rattle.std.proofs.Common.{if◌then◌else◌, Some, None, sym, ap, ◌∙◌}
use Rattle.tables_counting.specs.Moments.{still_counts}
use Rattle.keep_tables.proofs.uploads.row_if_still.Goals as goal

pub returns-then-still-clause-ok : goal.returns-then-still-clause-ok
returns-then-still-clause-ok g c clean t was =
    let upload = c.args.upload in
    let read = c.in_ok-still.ensures.ok clean t was in (
      ap (λ b. if b then Some (c.args.id, upload) else None) (sym c.if-still.true ∙ read.0 ∙ ap (λ name. still_counts c.args.span c.args.moment t name upload.print) c.as_str.ensures),
      read.1,
    )

pub returns-else-still-clause-ok : goal.returns-else-still-clause-ok
returns-else-still-clause-ok g c clean t was =
    let upload = c.args.upload in
    let read = c.in_ok-still.ensures.ok clean t was in (
      ap (λ b. if b then Some (c.args.id, upload) else None) (sym c.if-still.false ∙ read.0 ∙ ap (λ name. still_counts c.args.span c.args.moment t name upload.print) c.as_str.ensures),
      read.1,
    )
