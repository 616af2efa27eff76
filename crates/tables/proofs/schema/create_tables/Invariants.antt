use Rattle.std.proofs.Common.{◌≡◌, IsTrue}
use Rattle.sqlite.specs.State.{HasCleanDisk, Survives}
use Rattle.sqlite.specs.Held.{state}
use Rattle.tables.proofs.CreatingLemmas.{IsBuilding}
use Rattle.tables.proofs.schema.create_tables.Given as goal

-- the tables so far are made
abbrev pub invariant-loop-at : goal.invariant-loop-at
invariant-loop-at g l = record {
  reference : l.tx.conn.ghost_name ≡ l.fn.tx.conn.ghost_name;
  survives : Survives (state g.S.Store l.fn.tx.conn.now) (state g.S.Store l.tx.conn.now) (λ _. ⊥);
  built : HasCleanDisk (state g.S.Store l.tx.conn.now) → IsTrue (state g.S.Store l.fn.tx.conn.now).in_transaction → IsBuilding l.at (state g.S.Store l.fn.tx.conn.now) (state g.S.Store l.tx.conn.now);
}
