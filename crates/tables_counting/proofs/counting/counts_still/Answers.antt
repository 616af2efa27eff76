use Rattle.std.proofs.Common.{sym, ap, ◌∙◌}
use Rattle.std.proofs.lemmas.Result.{IfOk-weaker}
use Rattle.sqlite.specs.Held.{state}
use Rattle.tables_meaning.proofs.ReadsLemmas.{rests_if_unchanged, rests_itself, survives_itself}
use Rattle.tables_counting.specs.Moments.{still_counts}
use Rattle.tables_counting.proofs.counting.counts_still.Goals as goal

pub returns-in-Some-clause-ok : goal.returns-in-Some-clause-ok
returns-in-Some-clause-ok g c clean t was =
    let old = state g.S.Store c.args.conn.now in
    let new = state g.S.Store c.is_current.new.conn in
    IfOk-weaker c.is_current.result _ _
    (λ current h. (h.0 ∙ ap (λ span. still_counts span c.args.moment t c.args.name.now c.args.print.now) (sym c.in-Some.is), rests_if_unchanged old new h.1))
    (c.is_current.ensures.ok clean t was)

pub returns-in-None-clause-ok : goal.returns-in-None-clause-ok
returns-in-None-clause-ok g c clean t was =
    (ap (λ span. still_counts span c.args.moment t c.args.name.now c.args.print.now) (sym c.in-None.is), rests_itself (state g.S.Store c.args.conn.now))

pub returns-in-None-clause-survives : goal.returns-in-None-clause-survives
returns-in-None-clause-survives g c = survives_itself (state g.S.Store c.args.conn.now)
