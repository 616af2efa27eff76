use Rattle.std.proofs.Common.{Ok}
use Rattle.sqlite.specs.Held.{state}
use Rattle.tables.proofs.DatesLemmas.{changes_update_date}
use Rattle.tables.proofs.dates.update_date.Goals as goal

pub returns-clause-ok : goal.returns-clause-ok
returns-clause-ok g c clean inside =
    let ran = rw (c.params-to_sql.ensures, c.params-to_sql-2.ensures, c.in_ok-moment.ensures) at (c.in_ok-execute.ensures.runs clean inside) in
    changes_update_date (state g.S.Store c.args.tx.now.conn.now) (state g.S.Store c.execute.new.self.conn.now) c.args.suite.now c.args.moment (Ok _) ran
