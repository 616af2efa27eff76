use Rattle.sqlite.specs.Held.{state}
use Rattle.tables.proofs.TransactionLemmas.{on_ok}
use Rattle.tables_meaning.proofs.AmendLemmas.{makes_if_changed}
use Rattle.tables_changes.proofs.amending.showing.put_file.Goals as goal

pub returns-clause-ok : goal.returns-clause-ok
returns-clause-ok g c clean inside =
    let a = state g.S.Store c.args.tx.now.conn.now in
    let b = state g.S.Store c.insert_ref.new.tx.conn.now in
    on_ok _ (c.insert_ref.ensures.ok clean inside) (λ h. makes_if_changed a b _ (rw c.in_ok-path.ensures at h))
