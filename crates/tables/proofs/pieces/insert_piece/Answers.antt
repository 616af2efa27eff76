use Rattle.std.proofs.Common.{Ok}
use Rattle.sqlite.specs.Held.{state}
use Rattle.tables.proofs.PiecesLemmas.{inserts_piece}
use Rattle.tables.proofs.pieces.insert_piece.Goals as goal

pub returns-clause-ok : goal.returns-clause-ok
returns-clause-ok g c clean inside =
    let ran = rw (c.params-to_sql.ensures, c.params-to_sql-2.ensures, c.params-to_sql-3.ensures, c.as_id-body.ensures, c.in_ok-number.ensures) at (c.in_ok-execute.ensures.runs clean inside) in
    inserts_piece (state g.S.Store c.args.tx.now.conn.now) (state g.S.Store c.execute.new.self.conn.now) c.args.body c.args.number c.args.bytes.now (Ok _) ran
