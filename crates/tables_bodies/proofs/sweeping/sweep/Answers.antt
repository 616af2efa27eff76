use Rattle.std.proofs.Common.{ap, ◌∙◌, arith}
use Rattle.sqlite.specs.State.{HasCleanDisk}
use Rattle.sqlite.specs.Held.{state}
use Rattle.tables.proofs.TransactionLemmas.{on_ok}
use Rattle.tables_meaning.specs.Finished.{without_all}
use Rattle.tables_meaning.proofs.AmendLemmas.{makes_as, makes_by_read, makes_then}
use Rattle.tables_bodies.proofs.UnusedLemmas.{swept_by_number}
use Rattle.tables_bodies.proofs.sweeping.sweep.Goals as goal

pub returns-clause-ok : goal.returns-clause-ok
returns-clause-ok g c clean inside =
    let a = state g.S.Store c.args.tx.now.conn.now in
    let b = state g.S.Store c.unused_bodies.new.tx.conn.now in
    let d = state g.S.Store c.remove_bodies.new.tx.conn.now in
    let early : HasCleanDisk b = omega (arith, c.remove_bodies.ensures.survives.clean, clean) in
    let on = c.in_ok-unused.ensures.goes_on early inside in
    let read = makes_by_read a b on (λ t was. (c.in_ok-unused.ensures.ok early t was).1) in
    on_ok c.remove_bodies.result (c.remove_bodies.ensures.ok clean on.mode)
    (λ made. makes_as a d _ _ (λ t was. ap (λ ids. without_all ids t) (c.deref.ensures.value ∙ (c.in_ok-unused.ensures.ok early t was).0) ∙ swept_by_number t)
    (makes_then a b d _ _ read made))
