use Rattle.std.proofs.Common.{[]}
use Rattle.sqlite.specs.Held.{state}
use Rattle.tables.proofs.TransactionLemmas.{on_err}
use Rattle.tables_meaning.proofs.AmendLemmas.{keeps_not_run}
use Rattle.tables_changes.proofs.amending.confirm_open.Goals as goal

pub returns-in_err-prepare-clause-err : goal.returns-in_err-prepare-clause-err
returns-in_err-prepare-clause-err g c clean =
    let a = state g.S.Store c.args.tx.now.conn.now in
    let b = state g.S.Store c.prepare.new.self.conn.now in
    on_err _ (keeps_not_run a b _ [] _ (c.in_err-prepare.ensures.err clean []))

pub returns-clause-ok : goal.returns-clause-ok
returns-clause-ok g c clean = (c.in_ok-prepare.ensures.ok clean).1
