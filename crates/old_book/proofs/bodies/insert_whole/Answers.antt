use Rattle.std.proofs.Common.{Ok}
use Rattle.sqlite.specs.Held.{state}
use Rattle.old_book.proofs.BodiesLemmas.{copies_body}
use Rattle.old_book.proofs.bodies.insert_whole.Goals as goal

pub returns-clause-ok : goal.returns-clause-ok
returns-clause-ok g c clean inside =
    let ran = rw (c.params-to_sql.ensures, c.params-to_sql-2.ensures, c.params-to_sql-3.ensures, c.params-to_sql-4.ensures, c.params-to_sql-5.ensures, c.as_id-id.ensures, c.in_ok-size.ensures) at (c.in_ok-execute.ensures.runs clean inside) in
    copies_body (state g.S.Store c.args.tx.now.conn.now) (state g.S.Store c.execute.new.self.conn.now) c.args.id c.args.print.now (Ok _) ran
