use Rattle.std.proofs.Common.{◌∙◌, arith}
use Rattle.std.proofs.lemmas.Result.{IfOk-weaker}
use Rattle.sqlite.specs.State.{HasCleanDisk}
use Rattle.sqlite.specs.Held.{state}
use Rattle.tables.proofs.TransactionLemmas.{on_err}
use Rattle.tables_meaning.proofs.BodySteps.{keeps_if_err, survives_both}
use Rattle.tables_meaning.proofs.EndedLemmas.{ends_new, number_there}
use Rattle.tables_bodies.proofs.KnownLemmas.{known_ends}
use Rattle.tables_bodies.proofs.whole.store_whole.Goals as goal

pub returns-in_err-found-clause-err : goal.returns-in_err-found-clause-err
returns-in_err-found-clause-err g c clean inside = on_err _ (c.in_err-found.ensures.kept clean inside)

pub returns-in-Some-clause-same_reference : goal.returns-in-Some-clause-same_reference
returns-in-Some-clause-same_reference g c = c.remove_known.ensures.same_reference ∙ c.body_with_print_inside.ensures.same_reference

pub returns-in-Some-clause-ok : goal.returns-in-Some-clause-ok
returns-in-Some-clause-ok g c clean inside =
    let old = state g.S.Store c.args.tx.now.conn.now in
    let mid = state g.S.Store c.body_with_print_inside.new.tx.conn.now in
    let new = state g.S.Store c.remove_known.new.tx.conn.now in
    let early : HasCleanDisk mid = omega (arith, c.remove_known.ensures.survives.clean, clean) in
    let on = c.in_ok-found.ensures.goes_on early inside in
    let looks = c.in_ok-found.ensures.ok early in
    IfOk-weaker c.remove_known.result _ _
    (λ id h. (
      known_ends old mid c.args.print.now c.in_ok-found.found looks on c.in-Some.stored c.in-Some.is new c.args.body h.0,
      λ t was. h.1 ∙ number_there old mid c.args.print.now c.in_ok-found.found looks on c.args.body c.in-Some.stored c.in-Some.is t was,
    ))
    (c.remove_known.ensures.ok clean on.mode on.is_open)

pub returns-in-Some-clause-err : goal.returns-in-Some-clause-err
returns-in-Some-clause-err g c clean inside =
    let old = state g.S.Store c.args.tx.now.conn.now in
    let mid = state g.S.Store c.body_with_print_inside.new.tx.conn.now in
    let new = state g.S.Store c.remove_known.new.tx.conn.now in
    let early : HasCleanDisk mid = omega (arith, c.remove_known.ensures.survives.clean, clean) in
    let on = c.in_ok-found.ensures.goes_on early inside in
    keeps_if_err c.remove_known.result old mid new on (c.remove_known.ensures.err clean on.mode)

pub returns-in-Some-clause-survives : goal.returns-in-Some-clause-survives
returns-in-Some-clause-survives g c =
    survives_both (state g.S.Store c.args.tx.now.conn.now) (state g.S.Store c.body_with_print_inside.new.tx.conn.now) (state g.S.Store c.remove_known.new.tx.conn.now) c.body_with_print_inside.ensures.survives c.remove_known.ensures.survives

pub returns-in-None-clause-same_reference : goal.returns-in-None-clause-same_reference
returns-in-None-clause-same_reference g c = c.print_body.ensures.same_reference ∙ c.body_with_print_inside.ensures.same_reference

pub returns-in-None-clause-ok : goal.returns-in-None-clause-ok
returns-in-None-clause-ok g c clean inside =
    let old = state g.S.Store c.args.tx.now.conn.now in
    let mid = state g.S.Store c.body_with_print_inside.new.tx.conn.now in
    let new = state g.S.Store c.print_body.new.tx.conn.now in
    let early : HasCleanDisk mid = omega (arith, c.print_body.ensures.survives.clean, clean) in
    let on = c.in_ok-found.ensures.goes_on early inside in
    IfOk-weaker c.print_body.result _ _
    (λ id h. ends_new old mid c.args.print.now c.in_ok-found.found (c.in_ok-found.ensures.ok early) on new c.args.body id c.in-None.is h.0 h.1)
    (c.print_body.ensures.ok clean on.mode)

pub returns-in-None-clause-err : goal.returns-in-None-clause-err
returns-in-None-clause-err g c clean inside =
    let old = state g.S.Store c.args.tx.now.conn.now in
    let mid = state g.S.Store c.body_with_print_inside.new.tx.conn.now in
    let new = state g.S.Store c.print_body.new.tx.conn.now in
    let early : HasCleanDisk mid = omega (arith, c.print_body.ensures.survives.clean, clean) in
    let on = c.in_ok-found.ensures.goes_on early inside in
    keeps_if_err c.print_body.result old mid new on (c.print_body.ensures.err clean on.mode)

pub returns-in-None-clause-survives : goal.returns-in-None-clause-survives
returns-in-None-clause-survives g c =
    survives_both (state g.S.Store c.args.tx.now.conn.now) (state g.S.Store c.body_with_print_inside.new.tx.conn.now) (state g.S.Store c.print_body.new.tx.conn.now) c.body_with_print_inside.ensures.survives c.print_body.ensures.survives
