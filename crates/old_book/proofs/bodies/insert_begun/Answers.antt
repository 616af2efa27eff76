use Rattle.std.proofs.Common.{Ok}
use Rattle.sqlite.specs.Held.{state}
use Rattle.old_book.proofs.BodiesLemmas.{copies_begun}
use Rattle.old_book.proofs.bodies.insert_begun.Goals as goal

pub returns-clause-ok : goal.returns-clause-ok
returns-clause-ok g c clean inside =
    let ran = rw (c.params-to_sql.ensures, c.as_id-id.ensures) at (c.in_ok-execute.ensures.runs clean inside) in
    copies_begun (state g.S.Store c.args.tx.now.conn.now) (state g.S.Store c.execute.new.self.conn.now) c.args.id (Ok _) ran
