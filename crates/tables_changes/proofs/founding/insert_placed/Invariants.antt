use Rattle.std.proofs.Common.{◌≡◌, IsTrue, take}
use Rattle.sqlite.specs.State.{HasCleanDisk, Survives}
use Rattle.sqlite.specs.Held.{state}
use Rattle.tables_meaning.specs.Founding.{Continues, placed_texts, with_texts}
use Rattle.tables_changes.proofs.founding.insert_placed.Given as goal

-- those so far are added
abbrev pub invariant-loop-place : goal.invariant-loop-place
invariant-loop-place g l = record {
  reference : l.tx.conn.ghost_name ≡ l.fn.tx.conn.ghost_name;
  survives : Survives (state g.S.Store l.fn.tx.conn.now) (state g.S.Store l.tx.conn.now) (λ _. ⊥);
  added : HasCleanDisk (state g.S.Store l.tx.conn.now) → IsTrue (state g.S.Store l.fn.tx.conn.now).in_transaction
      → Continues (state g.S.Store l.fn.tx.conn.now) (state g.S.Store l.tx.conn.now) (with_texts (placed_texts l.shelves l.position l.suite (take l.place-index l.places)));
}
