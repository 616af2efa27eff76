use Rattle.std.proofs.Common.{◌≡◌, ℕ, ◌+◌, ◌<◌, IsTrue}
use Rattle.sqlite.specs.Held.{state}
use Rattle.sqlite.specs.State.{HasCleanDisk, IsUnchanged, Survives}
use Rattle.tables.specs.Inside.{GoesOn}
use Rattle.tables.specs.Rows.{Tables, Holds}
use Rattle.tables_meaning.specs.Coming.{bytes_at}
use Rattle.tables_bodies.proofs.other.have_same_pieces.Given as goal

-- the pieces so far are the same, and so is what comes after the last
abbrev pub invariant-loop-at : goal.invariant-loop-at
invariant-loop-at g l = record {
  reference : l.tx.conn.ghost_name ≡ l.fn.tx.conn.ghost_name;
  survives : Survives (state g.S.Store l.fn.tx.conn.now) (state g.S.Store l.tx.conn.now) (λ _. ⊥);
  goes_on : HasCleanDisk (state g.S.Store l.tx.conn.now) → IsTrue (state g.S.Store l.fn.tx.conn.now).in_transaction → GoesOn (state g.S.Store l.fn.tx.conn.now) (state g.S.Store l.tx.conn.now);
  same : HasCleanDisk (state g.S.Store l.tx.conn.now) → (t : Tables) → Holds (state g.S.Store l.fn.tx.conn.now).now t
      → IsUnchanged (state g.S.Store l.fn.tx.conn.now) (state g.S.Store l.tx.conn.now)
      × (bytes_at t l.fn.body (l.fn.pieces + 1) ≡ bytes_at t l.fn.other (l.fn.pieces + 1))
      × ((n : ℕ) → n < l.at → bytes_at t l.fn.body (n + 1) ≡ bytes_at t l.fn.other (n + 1));
}
