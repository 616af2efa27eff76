use Rattle.std.proofs.Common.{Ok}
use Rattle.sqlite.specs.Held.{state}
use Rattle.tables.proofs.WantsLemmas.{inserts_want}
use Rattle.tables.proofs.wants.insert_want.Goals as goal

pub returns-clause-ok : goal.returns-clause-ok
returns-clause-ok g c clean inside =
    let ran = rw (c.params-to_sql.ensures, c.params-to_sql-2.ensures, c.params-to_sql-3.ensures, c.params-to_sql-4.ensures, c.params-to_sql-5.ensures, c.params-to_sql-6.ensures, c.params-to_sql-7.ensures, c.as_id-upload.ensures, c.in_ok-size.ensures) at (c.in_ok-execute.ensures.runs clean inside) in
    inserts_want (state g.S.Store c.args.tx.now.conn.now) (state g.S.Store c.execute.new.self.conn.now) c.args.upload c.args.name.now c.args.print.now c.args.here (Ok _) ran
