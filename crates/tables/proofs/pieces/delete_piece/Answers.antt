use Rattle.sqlite.specs.Held.{state}
use Rattle.tables.proofs.PiecesLemmas.{removes_piece}
use Rattle.tables.proofs.pieces.delete_piece.Goals as goal

pub returns-clause-ok : goal.returns-clause-ok
returns-clause-ok g c clean inside =
    let ran = rw (c.params-to_sql.ensures, c.params-to_sql-2.ensures, c.as_id-body.ensures, c.in_ok-number.ensures) at (c.in_ok-taken.ensures.runs clean inside) in
    removes_piece (state g.S.Store c.args.tx.now.conn.now) (state g.S.Store c.execute.new.self.conn.now) c.args.body c.args.number _ ran
