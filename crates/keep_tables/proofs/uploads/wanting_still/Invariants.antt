use Rattle.std.proofs.Common.{◌≡◌, ◌++◌, false}
use Rattle.std.specs.List.{filter_map}
use Rattle.sqlite.specs.Held.{state}
use Rattle.sqlite.specs.State.{HasCleanDisk, IsUnchanged, Survives}
use Rattle.tables.specs.Rows.{Tables, Holds}
use Rattle.tables_meaning.specs.Reads.{wanting}
use Rattle.keep_tables.specs.Moments.{row_at}
use Rattle.keep_tables.proofs.uploads.wanting_still.Given as goal

-- the uploads so far, and those that are left
abbrev pub invariant-loop-id : goal.invariant-loop-id
invariant-loop-id g l = record {
  idle : l.fn.conn.in_transaction ≡ false → l.conn.in_transaction ≡ false;
  survives : Survives (state g.S.Store l.fn.conn) (state g.S.Store l.conn) (λ _. (t : Tables) → ¬ Holds (state g.S.Store l.fn.conn).now t);
  read : HasCleanDisk (state g.S.Store l.conn) → (t : Tables) → Holds (state g.S.Store l.fn.conn).now t
      → (l.rows.items ++ filter_map (row_at l.span l.moment t) l.id-iterator.rest.items ≡ filter_map (row_at l.span l.moment t) (wanting t))
      × IsUnchanged (state g.S.Store l.fn.conn) (state g.S.Store l.conn);
}
