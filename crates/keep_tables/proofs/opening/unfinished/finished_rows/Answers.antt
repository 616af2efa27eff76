use Rattle.std.proofs.Common.{ap, ◌∙◌}
use Rattle.tables.specs.Rows.{without}
use Rattle.tables_read.specs.All.{tables_with}
use Rattle.keep_tables.specs.Finishing.{is_among}
use Rattle.keep_tables.proofs.FinishLemmas.{rows_finished}
use Rattle.keep_tables.proofs.opening.unfinished.finished_rows.Goals as goal

pub returns : goal.returns
returns c =
    let t = tables_with c.args.all in
    rows_finished t c.retain_whole.new.bodies.items c.retain_others.new.pieces.items c.retain_whole.ensures
    (c.retain_others.ensures ∙ ap (λ ids. without (λ p. is_among ids p.1.body) t.pieces) c.requires)
