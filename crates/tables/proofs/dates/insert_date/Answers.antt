use Rattle.std.proofs.Common.{Ok}
use Rattle.sqlite.specs.Held.{state}
use Rattle.tables.proofs.DatesLemmas.{changes_insert_date}
use Rattle.tables.proofs.dates.insert_date.Goals as goal

pub returns-clause-ok : goal.returns-clause-ok
returns-clause-ok g c clean inside =
    let ran = rw (c.params-to_sql.ensures, c.params-to_sql-2.ensures, c.in_ok-moment.ensures) at (c.in_ok-execute.ensures.runs clean inside) in
    changes_insert_date (state g.S.Store c.args.tx.now.conn.now) (state g.S.Store c.execute.new.self.conn.now) (record { suite = c.args.suite.now; moment = c.args.moment }) (Ok _) ran
