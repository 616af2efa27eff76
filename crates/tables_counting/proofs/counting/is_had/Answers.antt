use Rattle.std.proofs.Common.{◌&&◌, sym, ap, ◌∙◌}
use Rattle.std.proofs.lemmas.Result.{IfOk-weaker}
use Rattle.sqlite.specs.Held.{state}
use Rattle.tables_meaning.proofs.ReadsLemmas.{rests_itself, survives_itself}
use Rattle.tables_counting.specs.Moments.{still_counts}
use Rattle.tables_counting.proofs.counting.is_had.Goals as goal

pub returns-then-not-want-clause-ok : goal.returns-then-not-want-clause-ok
returns-then-not-want-clause-ok g c clean t was =
    let want = c.args.want.now in
    (ap (λ b. b && still_counts c.args.span c.args.moment t want.name want.print) (sym c.if-not-want.true), rests_itself (state g.S.Store c.args.conn.now))

pub returns-then-not-want-clause-survives : goal.returns-then-not-want-clause-survives
returns-then-not-want-clause-survives g c = survives_itself (state g.S.Store c.args.conn.now)

pub returns-clause-ok : goal.returns-clause-ok
returns-clause-ok g c clean t was =
    let want = c.args.want.now in
    IfOk-weaker c.counts_still.result _ _
    (λ still h. (
      h.0 ∙ ap (λ name. still_counts c.args.span c.args.moment t name want.print) c.as_str.ensures
          ∙ ap (λ b. b && still_counts c.args.span c.args.moment t want.name want.print) (sym c.if-not-want.false),
      h.1,
    ))
    (c.counts_still.ensures.ok clean t was)
