use Rattle.std.proofs.Common.{true, sym, ap, ◌∙◌, arith}
use Rattle.std.specs.Option.{option_map_or}
use Rattle.std.proofs.lemmas.Result.{IfOk-weaker}
use Rattle.sqlite.specs.Held.{state}
use Rattle.sqlite.specs.State.{HasCleanDisk}
use Rattle.sqlite.proofs.Callers.{unchanged_then}
use Rattle.tables_meaning.proofs.AmendLemmas.{err_then}
use Rattle.tables_meaning.proofs.ReadsLemmas.{held_after, survives_after, survives_foreign, undone_after}
use Rattle.tables_bodies.specs.Swept.{has_arrived, has_arrived_under}
use Rattle.tables_bodies.proofs.sparing.has_arrived.Goals as goal

pub returns-in_err-file-clause-survives : goal.returns-in_err-file-clause-survives
returns-in_err-file-clause-survives g c = survives_foreign (state g.S.Store c.args.conn.now) (state g.S.Store c.file_at.new.conn) c.file_at.ensures.survives

pub returns-in_default-clause-ok : goal.returns-in_default-clause-ok
unfolding has_arrived
returns-in_default-clause-ok g c clean t was =
    let read = c.in_ok-file.ensures.ok clean t was in
    (ap (λ o. option_map_or (λ f. has_arrived_under t c.args.path.now f.body) o true) (sym c.in_default.is ∙ read.0), read.1)

pub returns-in_default-clause-survives : goal.returns-in_default-clause-survives
returns-in_default-clause-survives g c = survives_foreign (state g.S.Store c.args.conn.now) (state g.S.Store c.file_at.new.conn) c.file_at.ensures.survives

pub returns-clause-ok : goal.returns-clause-ok
unfolding has_arrived
returns-clause-ok g c clean t was =
    let old = state g.S.Store c.args.conn.now in
    let mid = state g.S.Store c.file_at.new.conn in
    let new = state g.S.Store c.has_arrived_under.new.conn in
    let early : HasCleanDisk mid = omega (arith, c.has_arrived_under.ensures.survives.clean, clean) in
    let first = c.in_ok-file.ensures.ok early t was in
    IfOk-weaker c.has_arrived_under.result _ _
    (λ arrived h. (
      h.0 ∙ ap (λ o. option_map_or (λ f. has_arrived_under t c.args.path.now f.body) o true) (sym c.in-Some.is ∙ first.0),
      unchanged_then old mid new first.1 h.1,
    ))
    (c.has_arrived_under.ensures.ok clean t (held_after old mid first.1 t was))

pub returns-clause-err : goal.returns-clause-err
returns-clause-err g c clean t was =
    let old = state g.S.Store c.args.conn.now in
    let mid = state g.S.Store c.file_at.new.conn in
    let new = state g.S.Store c.has_arrived_under.new.conn in
    let early : HasCleanDisk mid = omega (arith, c.has_arrived_under.ensures.survives.clean, clean) in
    let first = (c.in_ok-file.ensures.ok early t was).1 in
    err_then c.has_arrived_under.result (c.has_arrived_under.ensures.err clean t (held_after old mid first t was)) (λ undone. undone_after old mid new first undone)

pub returns-clause-survives : goal.returns-clause-survives
returns-clause-survives g c =
    let old = state g.S.Store c.args.conn.now in
    let mid = state g.S.Store c.file_at.new.conn in
    let new = state g.S.Store c.has_arrived_under.new.conn in
    survives_after old mid new (λ clean t was. (c.in_ok-file.ensures.ok clean t was).1) (survives_foreign old mid c.file_at.ensures.survives) c.has_arrived_under.ensures.survives
