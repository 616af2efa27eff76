use Rattle.std.proofs.Common.{sym, ap, ◌∙◌, unwrap_or}
use Rattle.std.proofs.lemmas.Result.{IfOk-weaker}
use Rattle.sqlite.specs.Held.{state}
use Rattle.tables.proofs.TransactionLemmas.{keeps_if_failed, on_err}
use Rattle.tables.specs.Rows.{next_in}
use Rattle.tables_meaning.proofs.EndedLemmas.{later_piece}
use Rattle.tables_bodies.proofs.coming.add_piece.Goals as goal

pub returns-in_err-insert_piece-in-Some-clause-err : goal.returns-in_err-insert_piece-in-Some-clause-err
returns-in_err-insert_piece-in-Some-clause-err g c clean inside = on_err _ (keeps_if_failed (state g.S.Store c.args.tx.now.conn.now) (state g.S.Store c.insert_piece.new.tx.conn.now) (c.in_err-insert_piece-in-Some.ensures.err clean inside))

pub returns-in_ok-insert_piece-in-Some-clause-ok : goal.returns-in_ok-insert_piece-in-Some-clause-ok
returns-in_ok-insert_piece-in-Some-clause-ok g c clean inside = (
  rw c.in-Some.is (later_piece (state g.S.Store c.args.tx.now.conn.now) (state g.S.Store c.insert_piece.new.tx.conn.now) c.in-Some.id c.args.number c.args.bytes.now (c.in_ok-insert_piece-in-Some.ensures.ok clean inside)),
  λ t was. sym (ap (λ o. unwrap_or o (next_in t.bodies)) c.in-Some.is),
)

pub returns-in-None-clause-ok : goal.returns-in-None-clause-ok
returns-in-None-clause-ok g c clean inside =
    IfOk-weaker c.add_first.result _ _ (λ id h. (rw c.in-None.is h.0, λ t was. h.1 t was ∙ sym (ap (λ o. unwrap_or o (next_in t.bodies)) c.in-None.is))) (c.add_first.ensures.ok clean inside)
