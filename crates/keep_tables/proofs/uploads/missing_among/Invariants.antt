use Rattle.std.proofs.Common.{◌≡◌, ◌≤◌, false, not, filter, length, take}
use Rattle.sqlite.specs.Held.{state}
use Rattle.sqlite.specs.State.{HasCleanDisk, Survives}
use Rattle.tables.specs.Rows.{Tables, Holds}
use Rattle.tables_meaning.specs.Reads.{Rests}
use Rattle.tables_counting.specs.Moments.{is_had}
use Rattle.keep_tables.proofs.uploads.missing_among.Given as goal

-- the entries so far
abbrev pub invariant-loop-want : goal.invariant-loop-want
invariant-loop-want g l = record {
  few : l.count ≤ l.want-index;
  idle : l.fn.conn.in_transaction ≡ false → l.conn.in_transaction ≡ false;
  survives : Survives (state g.S.Store l.fn.conn) (state g.S.Store l.conn) (λ _. (t : Tables) → ¬ Holds (state g.S.Store l.fn.conn).now t);
  read : HasCleanDisk (state g.S.Store l.conn) → (t : Tables) → Holds (state g.S.Store l.fn.conn).now t
      → (l.count ≡ length (filter (λ w. not (is_had l.span l.moment t w)) (take l.want-index l.wants))) × Rests (state g.S.Store l.fn.conn) (state g.S.Store l.conn);
}
