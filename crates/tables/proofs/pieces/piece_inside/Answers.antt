use Rattle.std.proofs.lemmas.Result.{IfOk-weaker}
use Rattle.sqlite.specs.Held.{state}
use Rattle.tables.specs.declared.pieces.TheConstants.{SELECT_PIECE}
use Rattle.tables.proofs.ReadLemmas.{plain_in}
use Rattle.tables.proofs.PiecesMeaning.{select_piece_plain}
use Rattle.tables.proofs.PiecesLemmas.{piece_answer}
use Rattle.tables.proofs.pieces.piece_inside.Goals as goal

pub returns-clause-ok : goal.returns-clause-ok
returns-clause-ok g c clean t was =
    let old = state g.S.Store c.args.tx.now.conn.now in
    IfOk-weaker c.select_first_inside.result _ _ (λ found h. piece_answer old (state g.S.Store c.select_first_inside.new.tx.conn.now) t c.args.body c.args.number found was
    (rw (c.params-to_sql.ensures, c.params-to_sql-2.ensures, c.as_id-body.ensures, c.in_ok-number.ensures) at h))
    (c.select_first_inside.ensures.ok clean (plain_in SELECT_PIECE.now select_piece_plain old was.schema))

pub returns-clause-err : goal.returns-clause-err
returns-clause-err g c clean t was = c.select_first_inside.ensures.err clean (plain_in SELECT_PIECE.now select_piece_plain (state g.S.Store c.args.tx.now.conn.now) was.schema)
