use Rattle.std.proofs.Common.{Some, None, sym, ◌∙◌, arith}
use Rattle.sqlite.specs.State.{HasCleanDisk}
use Rattle.sqlite.specs.Held.{state}
use Rattle.tables.proofs.TransactionLemmas.{on_ok}
use Rattle.tables_meaning.proofs.AmendLemmas.{makes_as, makes_by_read, makes_then}
use Rattle.tables_bodies.proofs.CleanLemmas.{gone_as}
use Rattle.tables_bodies.proofs.cleaning.take_away.Goals as goal

pub returns-in-Some-clause-ok : goal.returns-in-Some-clause-ok
returns-in-Some-clause-ok g c clean inside =
    let a = state g.S.Store c.args.tx.now.conn.now in
    let b = state g.S.Store c.print_of_body.new.tx.conn.now in
    let d = state g.S.Store c.remove_arrival.new.tx.conn.now in
    let early : HasCleanDisk b = omega (arith, c.remove_arrival.ensures.survives.clean, clean) in
    let shown = c.in_ok-print.ensures.goes_on early inside in
    let read = makes_by_read a b shown (λ t was. (c.in_ok-print.ensures.ok early t was).1) in
    on_ok _ (c.remove_arrival.ensures.ok clean shown.mode)
    (λ second. makes_as a d _ _ (λ t was. gone_as c.args.arrival.now t (Some c.in-Some.print) (sym (c.in_ok-print.ensures.ok early t was).0 ∙ c.in-Some.is)) (makes_then a b d _ _ read second))

pub returns-in-None-clause-ok : goal.returns-in-None-clause-ok
returns-in-None-clause-ok g c clean inside =
    let a = state g.S.Store c.args.tx.now.conn.now in
    let b = state g.S.Store c.print_of_body.new.tx.conn.now in
    let read = makes_by_read a b (c.in_ok-print.ensures.goes_on clean inside) (λ t was. (c.in_ok-print.ensures.ok clean t was).1) in
    makes_as a b _ _ (λ t was. gone_as c.args.arrival.now t None (sym (c.in_ok-print.ensures.ok clean t was).0 ∙ c.in-None.is)) read
