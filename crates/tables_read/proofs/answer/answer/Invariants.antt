use Rattle.std.proofs.Common.{◌≡◌, Ok}
use Rattle.sqlite.specs.Held.{state}
use Rattle.tables_read.specs.Reading.{Tells}
use Rattle.tables_read.proofs.StreamLemmas.{IsRead}
use Rattle.tables_read.proofs.answer.answer.Given as goal

-- the rows so far are read
abbrev pub invariant-rows : goal.invariant-rows
invariant-rows g l =
    (l.rows.conn.ghost_name ≡ l.initial.rows.conn.ghost_name)
    × Tells (state g.S.Store l.fn.conn) (state g.S.Store l.rows.conn.now) (Ok l.all.items) (IsRead g.S.Store g.T.Stored.layout l.sql l.rows.conn.now)
