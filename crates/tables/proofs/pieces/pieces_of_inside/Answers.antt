use Rattle.std.proofs.lemmas.Result.{IfOk-weaker}
use Rattle.sqlite.specs.Held.{state}
use Rattle.tables.specs.declared.pieces.TheConstants.{SELECT_PIECES_OF}
use Rattle.tables.proofs.ReadLemmas.{plain_in}
use Rattle.tables.proofs.PiecesMeaning.{select_pieces_of_plain}
use Rattle.tables.proofs.PiecesLemmas.{pieces_of_answer}
use Rattle.tables.proofs.pieces.pieces_of_inside.Goals as goal

pub returns-clause-ok : goal.returns-clause-ok
returns-clause-ok g c clean t was =
    let old = state g.S.Store c.args.tx.now.conn.now in
    IfOk-weaker c.select_inside.result _ _ (λ all h. pieces_of_answer old (state g.S.Store c.select_inside.new.tx.conn.now) t c.args.body all.items was (rw (c.params-to_sql.ensures, c.as_id-body.ensures) at h))
    (c.select_inside.ensures.ok clean (plain_in SELECT_PIECES_OF.now select_pieces_of_plain old was.schema))

pub returns-clause-err : goal.returns-clause-err
returns-clause-err g c clean t was = c.select_inside.ensures.err clean (plain_in SELECT_PIECES_OF.now select_pieces_of_plain (state g.S.Store c.args.tx.now.conn.now) was.schema)
