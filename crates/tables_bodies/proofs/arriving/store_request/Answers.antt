use Rattle.std.proofs.Common.{is_some, arith, sym, ap, subst, ◌∙◌}
use Rattle.sqlite.specs.State.{HasCleanDisk}
use Rattle.sqlite.specs.Held.{state}
use Rattle.tables.specs.Rows.{Holds}
use Rattle.tables.proofs.TransactionLemmas.{on_ok}
use Rattle.tables_meaning.proofs.Inside.{changes_then}
use Rattle.tables_meaning.proofs.DeliverLemmas.{read_then, read_alone, requested_before, requested_new}
use Rattle.tables_bodies.proofs.arriving.store_request.Goals as goal

pub returns-then-is_some-clause-ok : goal.returns-then-is_some-clause-ok
returns-then-is_some-clause-ok g c clean inside =
    let old = state g.S.Store c.args.tx.now.conn.now in
    let new = state g.S.Store c.upload_of.new.tx.conn.now in
    let read = c.in_ok-found.ensures.ok clean in
    read_alone old new _ (c.in_ok-found.ensures.goes_on clean inside)
    (λ t was. ((read t was).1, requested_before c.args.name.now c.args.print.now c.args.entries.now t (sym (ap is_some (read t was).0) ∙ sym c.is_some.ensures ∙ c.if-is_some.true)))

pub returns-clause-ok : goal.returns-clause-ok
returns-clause-ok g c clean inside =
    let old = state g.S.Store c.args.tx.now.conn.now in
    let mid = state g.S.Store c.upload_of.new.tx.conn.now in
    let one = state g.S.Store c.insert_upload.new.tx.conn.now in
    let new = state g.S.Store c.insert_wants.new.tx.conn.now in
    let clean1 : HasCleanDisk one = omega (arith, c.insert_wants.ensures.survives.clean, clean) in
    let clean0 : HasCleanDisk mid = omega (arith, c.insert_upload.ensures.survives.clean, clean1) in
    let on = c.in_ok-found.ensures.goes_on clean0 inside in
    let read = c.in_ok-found.ensures.ok clean0 in
    let added = c.in_ok-upload.ensures.ok clean1 on.mode in
    on_ok c.insert_wants.result (c.insert_wants.ensures.ok clean added.0.shown.mode added.0.shown.is_open)
    (λ wanted. read_then old mid new _ _ on
    (λ t was.
    let held : Holds mid.now t = subst (λ db. Holds db t) (sym (read t was).1.0.now_is) was in (
      (read t was).1,
      requested_new c.args.name.now c.args.print.now c.args.entries.now t c.in_ok-upload.upload (sym (ap is_some (read t was).0) ∙ sym c.is_some.ensures ∙ c.if-is_some.false) (added.1 t held),
    ))
    (changes_then mid one new _ _ added.0 wanted))
