use Rattle.std.proofs.Common.{◌≡◌, IsTrue, take}
use Rattle.sqlite.specs.Held.{state}
use Rattle.sqlite.specs.State.{HasCleanDisk, Survives}
use Rattle.tables_meaning.specs.Amending.{Makes}
use Rattle.tables_meaning.proofs.AmendLemmas.{so_far}
use Rattle.tables.specs.Rows.{Tables, Holds}
use Rattle.tables_meaning.specs.Amending.{HasBodies}
use Rattle.tables_meaning.specs.Making.{with_pooled}
use Rattle.tables_changes.proofs.amending.pooling.add_files.Given as goal

-- the files so far are there
abbrev pub invariant-loop-file : goal.invariant-loop-file
invariant-loop-file g l = record {
  reference : l.tx.conn.ghost_name ≡ l.fn.tx.conn.ghost_name;
  survives : Survives (state g.S.Store l.fn.tx.conn.now) (state g.S.Store l.tx.conn.now) (λ _. ⊥);
  made : HasCleanDisk (state g.S.Store l.tx.conn.now) → IsTrue (state g.S.Store l.fn.tx.conn.now).in_transaction → Makes (state g.S.Store l.fn.tx.conn.now) (state g.S.Store l.tx.conn.now) (so_far (λ now f. with_pooled f now) l.files l.file-index);
  bodies : HasCleanDisk (state g.S.Store l.tx.conn.now) → IsTrue (state g.S.Store l.fn.tx.conn.now).in_transaction → (t : Tables) → Holds (state g.S.Store l.fn.tx.conn.now).now t → HasBodies t (take l.file-index l.files);
}
