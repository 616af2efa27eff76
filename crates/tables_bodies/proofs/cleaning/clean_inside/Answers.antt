use Rattle.std.proofs.Common.{length, ap, ◌∙◌, arith}
use Rattle.sqlite.specs.State.{HasCleanDisk}
use Rattle.sqlite.specs.Held.{state}
use Rattle.tables_meaning.proofs.AmendLemmas.{changes_if_made, makes_as, makes_by_read, makes_then}
use Rattle.tables_bodies.proofs.CleanLemmas.{cleaned_as}
use Rattle.tables_bodies.proofs.cleaning.clean_inside.Goals as goal

pub returns-clause-ok : goal.returns-clause-ok
returns-clause-ok g c clean inside =
    let a = state g.S.Store c.args.tx.now.conn.now in
    let b = state g.S.Store c.ended_arrivals.new.tx.conn.now in
    let m = state g.S.Store c.take_all_away.new.tx.conn.now in
    let d = state g.S.Store c.sweep.new.tx.conn.now in
    let clean_m : HasCleanDisk m = omega (arith, c.sweep.ensures.survives.clean, clean) in
    let clean_b : HasCleanDisk b = omega (arith, c.take_all_away.ensures.survives.clean, clean_m) in
    let shown = c.in_ok-ended.ensures.goes_on clean_b inside in
    let ended = c.in_ok-ended.ensures.ok clean_b in
    let read = makes_by_read a b shown (λ t was. (ended t was).1) in
    let gone = c.in_ok-take_all_away.ensures.ok clean_m shown.mode in
    let last = c.in_ok-sweep.ensures.ok clean gone.mode in (
      changes_if_made a d _ shown.was_open
          (makes_as a d _ _ (λ t was. cleaned_as c.args.span c.args.moment t c.deref.result.now (c.deref.ensures.value ∙ (ended t was).0))
          (makes_then a m d _ _ (makes_then a b m _ _ read gone) last)),
      λ t was. c.count_of.ensures ∙ ap length (c.deref-2.ensures.value ∙ (ended t was).0),
    )
