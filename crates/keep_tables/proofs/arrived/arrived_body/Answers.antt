use Rattle.std.proofs.Common.{Some, sym, ap, ◌∙◌, arith}
use Rattle.std.specs.Option.{option_and_then}
use Rattle.std.proofs.lemmas.Result.{IfOk-weaker}
use Rattle.sqlite.specs.Held.{state}
use Rattle.sqlite.specs.State.{HasCleanDisk}
use Rattle.sqlite.proofs.Callers.{unchanged_then}
use Rattle.tables_meaning.proofs.AmendLemmas.{err_then}
use Rattle.tables_meaning.proofs.ReadsLemmas.{held_after, survives_after, survives_foreign, undone_after}
use Rattle.keep_tables.specs.Arrived.{bytes_under, found_bytes}
use Rattle.keep_tables.proofs.arrived.arrived_body.Goals as goal

pub returns-in_err-body-clause-survives : goal.returns-in_err-body-clause-survives
returns-in_err-body-clause-survives g c =
    survives_foreign (state g.S.Store c.args.conn.now) (state g.S.Store c.body_with_print.new.conn) c.body_with_print.ensures.survives

pub returns-in_default-clause-ok : goal.returns-in_default-clause-ok
unfolding found_bytes
returns-in_default-clause-ok g c clean t was =
    let read = c.in_ok-body.ensures.ok clean t was in
    (ap (option_and_then (bytes_under c.args.name.now t)) (sym c.in_default.is ∙ read.0), read.1)

pub returns-in_default-clause-survives : goal.returns-in_default-clause-survives
returns-in_default-clause-survives g c =
    survives_foreign (state g.S.Store c.args.conn.now) (state g.S.Store c.body_with_print.new.conn) c.body_with_print.ensures.survives

pub returns-clause-ok : goal.returns-clause-ok
unfolding found_bytes
returns-clause-ok g c clean t was =
    let old = state g.S.Store c.args.conn.now in
    let mid = state g.S.Store c.body_with_print.new.conn in
    let new = state g.S.Store c.body_under.new.conn in
    let early : HasCleanDisk mid = omega (arith, c.body_under.ensures.survives.clean, clean) in
    let first = c.in_ok-body.ensures.ok early t was in
    IfOk-weaker c.body_under.result _ _
    (λ found h. (
      h.0 ∙ ap (option_and_then (bytes_under c.args.name.now t)) (sym c.in-Some.is ∙ first.0),
      unchanged_then old mid new first.1 h.1,
    ))
    (c.body_under.ensures.ok clean t (held_after old mid first.1 t was))

pub returns-clause-err : goal.returns-clause-err
returns-clause-err g c clean t was =
    let old = state g.S.Store c.args.conn.now in
    let mid = state g.S.Store c.body_with_print.new.conn in
    let new = state g.S.Store c.body_under.new.conn in
    let early : HasCleanDisk mid = omega (arith, c.body_under.ensures.survives.clean, clean) in
    let first = (c.in_ok-body.ensures.ok early t was).1 in
    err_then c.body_under.result (c.body_under.ensures.err clean t (held_after old mid first t was)) (λ failed. undone_after old mid new first failed)

pub returns-clause-survives : goal.returns-clause-survives
returns-clause-survives g c =
    let old = state g.S.Store c.args.conn.now in
    let mid = state g.S.Store c.body_with_print.new.conn in
    let new = state g.S.Store c.body_under.new.conn in
    survives_after old mid new (λ clean t was. (c.in_ok-body.ensures.ok clean t was).1) (survives_foreign old mid c.body_with_print.ensures.survives) c.body_under.ensures.survives
