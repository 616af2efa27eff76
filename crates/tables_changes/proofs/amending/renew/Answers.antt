use Rattle.std.proofs.Common.{arith}
use Rattle.sqlite.specs.State.{HasCleanDisk}
use Rattle.sqlite.specs.Held.{state}
use Rattle.tables.proofs.TransactionLemmas.{on_ok}
use Rattle.tables_meaning.proofs.AmendLemmas.{makes_then}
use Rattle.tables_changes.proofs.amending.renew.Goals as goal

pub returns-clause-ok : goal.returns-clause-ok
returns-clause-ok g c clean inside =
    let a = state g.S.Store c.args.tx.now.conn.now in
    let b = state g.S.Store c.renew_texts.new.tx.conn.now in
    let d = state g.S.Store c.renew_dates.new.tx.conn.now in
    let early : HasCleanDisk b = omega (arith, c.renew_dates.ensures.survives.clean, clean) in
    let first = c.in_ok-renew_texts.ensures.ok early inside in
    let next = rw (c.suites-suites.ensures, c.as_slice-steps.ensures) at (c.renew_dates.ensures.ok clean first.mode) in
    let begun = rw c.as_slice-texts.ensures at first in
    on_ok _ next (λ second. makes_then a b d _ _ begun second)
