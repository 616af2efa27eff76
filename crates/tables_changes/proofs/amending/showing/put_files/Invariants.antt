use Rattle.std.proofs.Common.{◌≡◌, IsTrue}
use Rattle.sqlite.specs.Held.{state}
use Rattle.sqlite.specs.State.{HasCleanDisk, Survives}
use Rattle.tables_meaning.specs.Amending.{Makes}
use Rattle.tables_meaning.proofs.AmendLemmas.{so_far}
use Rattle.tables.specs.Rows.{with_ref}
use Rattle.tables_meaning.specs.Kept.{refs_for}
use Rattle.tables_changes.proofs.amending.showing.put_files.Given as goal

-- the files so far have their rows
abbrev pub invariant-loop-at : goal.invariant-loop-at
invariant-loop-at g l = record {
  reference : l.tx.conn.ghost_name ≡ l.fn.tx.conn.ghost_name;
  survives : Survives (state g.S.Store l.fn.tx.conn.now) (state g.S.Store l.tx.conn.now) (λ _. ⊥);
  made : HasCleanDisk (state g.S.Store l.tx.conn.now) → IsTrue (state g.S.Store l.fn.tx.conn.now).in_transaction → Makes (state g.S.Store l.fn.tx.conn.now) (state g.S.Store l.tx.conn.now) (so_far (λ now r. with_ref r now) (refs_for l.id l.item) l.at);
}
