use Rattle.std.proofs.Common.{◌≡◌, ◌++◌, false}
use Rattle.sqlite.specs.Held.{state}
use Rattle.sqlite.specs.State.{HasCleanDisk, Survives}
use Rattle.tables.specs.Rows.{Tables, Holds}
use Rattle.tables_meaning.specs.Reads.{Rests, wanting}
use Rattle.tables_meaning.proofs.WantingLemmas.{wanting_behind}
use Rattle.keep_tables.proofs.uploads.wanting_uploads.Given as goal

-- the uploads so far, and those after them
abbrev pub invariant-loop : goal.invariant-loop
invariant-loop g l = record {
  idle : l.fn.conn.in_transaction ≡ false → l.conn.in_transaction ≡ false;
  survives : Survives (state g.S.Store l.fn.conn) (state g.S.Store l.conn) (λ _. (t : Tables) → ¬ Holds (state g.S.Store l.fn.conn).now t);
  read : HasCleanDisk (state g.S.Store l.conn) → (t : Tables) → Holds (state g.S.Store l.fn.conn).now t
      → (l.uploads.items ++ wanting_behind t l.after ≡ wanting t) × Rests (state g.S.Store l.fn.conn) (state g.S.Store l.conn);
}
