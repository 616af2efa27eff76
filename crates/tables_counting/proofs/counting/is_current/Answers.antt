use Rattle.std.proofs.Common.{false, Some, sym, ap, ◌∙◌, arith}
use Rattle.std.specs.Option.{option_map_or}
use Rattle.std.proofs.lemmas.Result.{IfOk-weaker}
use Rattle.sqlite.specs.Held.{state}
use Rattle.sqlite.specs.State.{HasCleanDisk}
use Rattle.sqlite.proofs.Callers.{unchanged_then}
use Rattle.tables_bodies.specs.Counting.{arrival_counts}
use Rattle.tables_meaning.proofs.AmendLemmas.{err_then}
use Rattle.tables_meaning.proofs.ReadsLemmas.{held_after, survives_after, survives_foreign, undone_after, undone_if_failed}
use Rattle.tables_counting.specs.Moments.{found_current}
use Rattle.tables_counting.proofs.counting.is_current.Goals as goal

pub returns-in_err-body-clause-survives : goal.returns-in_err-body-clause-survives
returns-in_err-body-clause-survives g c =
    survives_foreign (state g.S.Store c.args.conn.now) (state g.S.Store c.body_with_print.new.conn) c.body_with_print.ensures.survives

pub returns-in_default-clause-ok : goal.returns-in_default-clause-ok
unfolding found_current
returns-in_default-clause-ok g c clean t was =
    let read = c.in_ok-body.ensures.ok clean t was in
    (ap (λ o. option_map_or (λ body. arrival_counts (Some c.args.seconds) c.args.moment c.args.name.now body t) o false) (sym c.in_default.is ∙ read.0), read.1)

pub returns-in_default-clause-survives : goal.returns-in_default-clause-survives
returns-in_default-clause-survives g c =
    survives_foreign (state g.S.Store c.args.conn.now) (state g.S.Store c.body_with_print.new.conn) c.body_with_print.ensures.survives

pub returns-clause-ok : goal.returns-clause-ok
unfolding found_current
returns-clause-ok g c clean t was =
    let old = state g.S.Store c.args.conn.now in
    let mid = state g.S.Store c.body_with_print.new.conn in
    let new = state g.S.Store c.counts_under.new.conn in
    let early : HasCleanDisk mid = omega (arith, c.counts_under.ensures.survives.clean, clean) in
    let first = c.in_ok-body.ensures.ok early t was in
    IfOk-weaker c.counts_under.result _ _
    (λ counts h. (
      h.0 ∙ ap (λ o. option_map_or (λ body. arrival_counts (Some c.args.seconds) c.args.moment c.args.name.now body t) o false) (sym c.in-Some.is ∙ first.0),
      unchanged_then old mid new first.1 h.1,
    ))
    (c.counts_under.ensures.ok clean t (held_after old mid first.1 t was))

pub returns-clause-err : goal.returns-clause-err
returns-clause-err g c clean t was =
    let old = state g.S.Store c.args.conn.now in
    let mid = state g.S.Store c.body_with_print.new.conn in
    let new = state g.S.Store c.counts_under.new.conn in
    let early : HasCleanDisk mid = omega (arith, c.counts_under.ensures.survives.clean, clean) in
    let first = (c.in_ok-body.ensures.ok early t was).1 in
    err_then c.counts_under.result (c.counts_under.ensures.err clean t (held_after old mid first t was)) (λ failed. undone_after old mid new first (undone_if_failed mid new failed))

pub returns-clause-survives : goal.returns-clause-survives
returns-clause-survives g c =
    let old = state g.S.Store c.args.conn.now in
    let mid = state g.S.Store c.body_with_print.new.conn in
    let new = state g.S.Store c.counts_under.new.conn in
    survives_after old mid new (λ clean t was. (c.in_ok-body.ensures.ok clean t was).1) (survives_foreign old mid c.body_with_print.ensures.survives)
    (survives_foreign mid new c.counts_under.ensures.survives)
