use Rattle.std.proofs.Common.{◌≡◌, false, drop}
use Rattle.std.specs.List.{list_all}
use Rattle.sqlite.specs.Held.{state}
use Rattle.sqlite.specs.State.{HasCleanDisk, Survives}
use Rattle.tables.specs.Rows.{Tables, Holds}
use Rattle.tables_meaning.specs.Reads.{Rests}
use Rattle.tables_bodies.specs.Swept.{have_arrived}
use Rattle.tables_bodies.proofs.sparing.have_all_arrived.Given as goal

-- those that are left decide
abbrev pub invariant-loop-step : goal.invariant-loop-step
invariant-loop-step g l = record {
  idle : l.fn.conn.in_transaction ≡ false → l.conn.in_transaction ≡ false;
  survives : Survives (state g.S.Store l.fn.conn) (state g.S.Store l.conn) (λ _. (t : Tables) → ¬ Holds (state g.S.Store l.fn.conn).now t);
  read : HasCleanDisk (state g.S.Store l.conn) → (t : Tables) → Holds (state g.S.Store l.fn.conn).now t
      → (list_all (λ s. have_arrived t s.plan.files_removed) (drop l.step-index l.steps) ≡ list_all (λ s. have_arrived t s.plan.files_removed) l.steps) × Rests (state g.S.Store l.fn.conn) (state g.S.Store l.conn);
}
