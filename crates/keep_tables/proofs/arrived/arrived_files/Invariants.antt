use Rattle.std.proofs.Common.{◌≡◌, ◌++◌, false}
use Rattle.std.specs.List.{filter_map}
use Rattle.sqlite.specs.Held.{state}
use Rattle.sqlite.specs.State.{HasCleanDisk, IsUnchanged, Survives}
use Rattle.tables.specs.Rows.{Tables, Holds}
use Rattle.keep_tables.specs.Arrived.{file_in, files_in}
use Rattle.keep_tables.proofs.arrived.arrived_files.Given as goal

-- the files so far, and those of the rows that are left
abbrev pub invariant-loop-row : goal.invariant-loop-row
invariant-loop-row g l = record {
  idle : l.fn.conn.in_transaction ≡ false → l.conn.in_transaction ≡ false;
  survives : Survives (state g.S.Store l.fn.conn) (state g.S.Store l.conn) (λ _. (t : Tables) → ¬ Holds (state g.S.Store l.fn.conn).now t);
  read : HasCleanDisk (state g.S.Store l.conn) → (t : Tables) → Holds (state g.S.Store l.fn.conn).now t
      → (l.files.items ++ filter_map (λ x. file_in t x.1) l.row-iterator.rest.items ≡ files_in t)
      × IsUnchanged (state g.S.Store l.fn.conn) (state g.S.Store l.conn);
}
