use Rattle.std.proofs.Common.{◌≡◌, IsTrue}
use Rattle.sqlite.specs.Held.{state}
use Rattle.sqlite.specs.State.{HasCleanDisk, Survives}
use Rattle.tables_bodies.specs.Thinned.{Thins}
use Rattle.tables_bodies.proofs.removing.remove_later_pieces.Given as goal

-- some pieces of the body are gone so far, and no other row
abbrev pub invariant-loop-number : goal.invariant-loop-number
invariant-loop-number g l = record {
  reference : l.tx.conn.ghost_name ≡ l.fn.tx.conn.ghost_name;
  survives : Survives (state g.S.Store l.fn.tx.conn.now) (state g.S.Store l.tx.conn.now) (λ _. ⊥);
  thinned : HasCleanDisk (state g.S.Store l.tx.conn.now) → IsTrue (state g.S.Store l.fn.tx.conn.now).in_transaction → Thins l.fn.id (state g.S.Store l.fn.tx.conn.now) (state g.S.Store l.tx.conn.now);
}
