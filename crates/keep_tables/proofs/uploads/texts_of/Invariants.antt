use Rattle.std.proofs.Common.{◌≡◌, false, length, map, take, zip, All}
use Rattle.sqlite.specs.Held.{state}
use Rattle.sqlite.specs.State.{HasCleanDisk, Survives}
use Rattle.suites.specs.Upload.{IsTextOf}
use Rattle.tables.specs.Rows.{Tables, Holds}
use Rattle.tables_meaning.specs.Reads.{Rests, text_in}
use Rattle.keep_tables.proofs.uploads.texts_of.Given as goal

-- the texts so far
abbrev pub invariant-loop-entry : goal.invariant-loop-entry
invariant-loop-entry g l = record {
  count : length l.texts.items ≡ l.entry-index;
  kept : All IsTextOf (zip (take l.entry-index l.entries) l.texts.items);
  idle : l.fn.conn.in_transaction ≡ false → l.conn.in_transaction ≡ false;
  survives : Survives (state g.S.Store l.fn.conn) (state g.S.Store l.conn) (λ _. (t : Tables) → ¬ Holds (state g.S.Store l.fn.conn).now t);
  read : HasCleanDisk (state g.S.Store l.conn) → (t : Tables) → Holds (state g.S.Store l.fn.conn).now t
      → (l.texts.items ≡ map (text_in t) (take l.entry-index l.entries)) × Rests (state g.S.Store l.fn.conn) (state g.S.Store l.conn);
}
