use Rattle.std.proofs.Common.{◌≡◌, IsTrue, take}
use Rattle.std.specs.List.{zip}
use Rattle.sqlite.specs.State.{HasCleanDisk, Survives}
use Rattle.sqlite.specs.Held.{state}
use Rattle.indices.specs.Indices.{texts_from}
use Rattle.tables_meaning.specs.Founding.{Continues, with_texts}
use Rattle.tables_changes.proofs.founding.insert_texts.Given as goal

-- those of the suites so far are added
abbrev pub invariant-loop-position : goal.invariant-loop-position
invariant-loop-position g l = record {
  reference : l.tx.conn.ghost_name ≡ l.fn.tx.conn.ghost_name;
  survives : Survives (state g.S.Store l.fn.tx.conn.now) (state g.S.Store l.tx.conn.now) (λ _. ⊥);
  added : HasCleanDisk (state g.S.Store l.tx.conn.now) → IsTrue (state g.S.Store l.fn.tx.conn.now).in_transaction
      → Continues (state g.S.Store l.fn.tx.conn.now) (state g.S.Store l.tx.conn.now) (with_texts (texts_from l.shelves 0 (take l.position (zip l.config.suites l.dates))));
}
