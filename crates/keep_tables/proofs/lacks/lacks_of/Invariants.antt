use Rattle.std.proofs.Common.{◌≡◌, ◌++◌, false}
use Rattle.std.specs.List.{filter_map}
use Rattle.sqlite.specs.Held.{state}
use Rattle.sqlite.specs.State.{HasCleanDisk, IsUnchanged, Survives}
use Rattle.tables.specs.Rows.{Tables, Holds}
use Rattle.keep_tables.specs.Moments.{lack_at, lacks_at}
use Rattle.keep_tables.proofs.lacks.lacks_of.Given as goal

-- what is lacking so far, and what is of the entries that are left
abbrev pub invariant-loop-want : goal.invariant-loop-want
invariant-loop-want g l = record {
  idle : l.fn.conn.in_transaction ≡ false → l.conn.in_transaction ≡ false;
  survives : Survives (state g.S.Store l.fn.conn) (state g.S.Store l.conn) (λ _. (t : Tables) → ¬ Holds (state g.S.Store l.fn.conn).now t);
  read : HasCleanDisk (state g.S.Store l.conn) → (t : Tables) → Holds (state g.S.Store l.fn.conn).now t
      → (l.lacks.items ++ filter_map (lack_at l.span l.moment t) l.want-iterator.rest.items ≡ lacks_at l.span l.moment t l.upload)
      × IsUnchanged (state g.S.Store l.fn.conn) (state g.S.Store l.conn);
}
