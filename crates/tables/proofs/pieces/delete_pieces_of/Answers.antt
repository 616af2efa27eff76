use Rattle.std.proofs.Common.{Ok}
use Rattle.sqlite.specs.Held.{state}
use Rattle.tables.proofs.PiecesLemmas.{removes_pieces}
use Rattle.tables.proofs.pieces.delete_pieces_of.Goals as goal

pub returns-clause-ok : goal.returns-clause-ok
returns-clause-ok g c clean inside =
    let ran = rw (c.params-to_sql.ensures, c.as_id-body.ensures) at (c.in_ok-execute.ensures.runs clean inside) in
    removes_pieces (state g.S.Store c.args.tx.now.conn.now) (state g.S.Store c.execute.new.self.conn.now) c.args.body (Ok _) ran
