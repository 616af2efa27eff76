use Rattle.std.proofs.lemmas.Result.{IfOk-weaker}
use Rattle.sqlite.specs.Held.{state}
use Rattle.sqlite.proofs.StateLemmas.{survives_weaker}
use Rattle.tables.specs.declared.pieces.TheConstants.{SELECT_PIECE}
use Rattle.tables.proofs.ReadLemmas.{foreign, plain_in}
use Rattle.tables.proofs.PiecesMeaning.{select_piece_plain}
use Rattle.tables.proofs.PiecesLemmas.{piece_answer}
use Rattle.tables.proofs.pieces.piece.Goals as goal

pub returns-clause-ok : goal.returns-clause-ok
returns-clause-ok g c clean t was =
    let old = state g.S.Store c.args.conn.now in
    IfOk-weaker c.select_first.result _ _ (λ found h. piece_answer old (state g.S.Store c.select_first.new.conn) t c.args.body c.args.number found was
    (rw (c.params-to_sql.ensures, c.params-to_sql-2.ensures, c.as_id-body.ensures, c.in_ok-number.ensures) at h))
    (c.select_first.ensures.ok clean (plain_in SELECT_PIECE.now select_piece_plain old was.schema))

pub returns-clause-err : goal.returns-clause-err
returns-clause-err g c clean t was = c.select_first.ensures.err clean (plain_in SELECT_PIECE.now select_piece_plain (state g.S.Store c.args.conn.now) was.schema)

pub returns-clause-survives : goal.returns-clause-survives
returns-clause-survives g c =
    survives_weaker _ _ _ _ (λ _ db other. foreign SELECT_PIECE.now select_piece_plain (state g.S.Store c.args.conn.now) other) c.select_first.ensures.survives
