use Rattle.std.proofs.Common.{◌≡◌, false, drop}
use Rattle.std.specs.List.{list_all}
use Rattle.sqlite.specs.Held.{state}
use Rattle.sqlite.specs.State.{HasCleanDisk, Survives}
use Rattle.tables.specs.Rows.{Tables, Holds}
use Rattle.tables_meaning.specs.Reads.{Rests}
use Rattle.tables_bodies.specs.Swept.{has_arrived}
use Rattle.tables_bodies.proofs.sparing.have_arrived.Given as goal

-- those that are left decide
abbrev pub invariant-loop-file : goal.invariant-loop-file
invariant-loop-file g l = record {
  idle : l.fn.conn.in_transaction ≡ false → l.conn.in_transaction ≡ false;
  survives : Survives (state g.S.Store l.fn.conn) (state g.S.Store l.conn) (λ _. (t : Tables) → ¬ Holds (state g.S.Store l.fn.conn).now t);
  read : HasCleanDisk (state g.S.Store l.conn) → (t : Tables) → Holds (state g.S.Store l.fn.conn).now t
      → (list_all (λ f. has_arrived t f.path) (drop l.file-index l.files) ≡ list_all (λ f. has_arrived t f.path) l.files) × Rests (state g.S.Store l.fn.conn) (state g.S.Store l.conn);
}
