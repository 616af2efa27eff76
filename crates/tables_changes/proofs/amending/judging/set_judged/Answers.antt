use Rattle.std.proofs.Common.{◌≡◌, arith, rules}
use Rattle.sqlite.specs.State.{HasCleanDisk}
use Rattle.sqlite.specs.Held.{state}
use Rattle.rules.specs.Verdicts.{number_of}
use Rattle.tables.proofs.TransactionLemmas.{on_ok}
use Rattle.tables_meaning.proofs.AmendLemmas.{makes_then, makes_if_changed}
use Rattle.tables_changes.proofs.amending.judging.set_judged.Goals as goal

pub returns-clause-ok : goal.returns-clause-ok
returns-clause-ok g c clean inside =
    let a = state g.S.Store c.args.tx.now.conn.now in
    let b = state g.S.Store c.set_verdict.new.tx.conn.now in
    let d = state g.S.Store c.delete_wants.new.tx.conn.now in
    let early : HasCleanDisk b = omega (arith, c.delete_wants.ensures.survives.clean, clean) in
    let is : c.from.result ≡ number_of c.args.verdict = search rules in
    let first = rw is at (c.in_ok-set_verdict.ensures.ok early inside) in
    on_ok _ (c.delete_wants.ensures.ok clean first.shown.mode) (λ second. makes_then a b d _ _ (makes_if_changed a b _ first) (makes_if_changed b d _ second))
