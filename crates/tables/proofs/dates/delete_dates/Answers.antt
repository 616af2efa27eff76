use Rattle.std.proofs.Common.{Ok}
use Rattle.sqlite.specs.Held.{state}
use Rattle.tables.proofs.DatesLemmas.{removes_dates}
use Rattle.tables.proofs.dates.delete_dates.Goals as goal

pub returns-clause-ok : goal.returns-clause-ok
returns-clause-ok g c clean inside =
    removes_dates (state g.S.Store c.args.tx.now.conn.now) (state g.S.Store c.execute.new.self.conn.now) (Ok _) (c.in_ok-execute.ensures.runs clean inside)
