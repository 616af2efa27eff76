use Rattle.std.proofs.Common.{sym, ap, ◌∙◌, unwrap_or}
use Rattle.std.proofs.lemmas.Result.{IfOk-weaker}
use Rattle.sqlite.specs.Held.{state}
use Rattle.tables.specs.Rows.{next_in}
use Rattle.tables_meaning.proofs.EndedLemmas.{printed, printed_new}
use Rattle.tables_bodies.proofs.whole.print_body.Goals as goal

pub returns-in_ok-set_print-in-Some-clause-ok : goal.returns-in_ok-set_print-in-Some-clause-ok
returns-in_ok-set_print-in-Some-clause-ok g c clean inside = (
  rw c.in-Some.is (printed (state g.S.Store c.args.tx.now.conn.now) (state g.S.Store c.set_print.new.tx.conn.now) c.in-Some.id c.args.print.now (c.in_ok-set_print-in-Some.ensures.ok clean inside)),
  λ t was. sym (ap (λ o. unwrap_or o (next_in t.bodies)) c.in-Some.is),
)

pub returns-in-None-clause-ok : goal.returns-in-None-clause-ok
returns-in-None-clause-ok g c clean inside =
    IfOk-weaker c.insert_body.result _ _
    (λ id h. (rw c.in-None.is (printed_new (state g.S.Store c.args.tx.now.conn.now) (state g.S.Store c.insert_body.new.tx.conn.now) c.args.print.now h.0), λ t was. h.1 t was ∙ sym (ap (λ o. unwrap_or o (next_in t.bodies)) c.in-None.is)))
    (c.insert_body.ensures.ok clean inside)
