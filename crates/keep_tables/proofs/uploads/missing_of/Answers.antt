use Rattle.std.proofs.Common.{length, filter, not, ap, ◌∙◌, arith}
use Rattle.sqlite.specs.Held.{state}
use Rattle.sqlite.specs.State.{HasCleanDisk}
use Rattle.sqlite.proofs.Callers.{unchanged_then}
use Rattle.tables.proofs.ReadLemmas.{on_err}
use Rattle.tables_meaning.proofs.ReadsLemmas.{held_after, survives_after, survives_foreign, undone_after}
use Rattle.keep_tables.specs.Moments.{missing_at}
use Rattle.tables_counting.specs.Moments.{is_had}
use Rattle.keep_tables.proofs.uploads.missing_of.Goals as goal

pub returns-in_err-wants-clause-survives : goal.returns-in_err-wants-clause-survives
returns-in_err-wants-clause-survives g c = survives_foreign (state g.S.Store c.args.conn.now) (state g.S.Store c.wants_of.new.conn) c.wants_of.ensures.survives

pub returns-in_err-missing-clause-err : goal.returns-in_err-missing-clause-err
returns-in_err-missing-clause-err g c clean t was =
    let old = state g.S.Store c.args.conn.now in
    let mid = state g.S.Store c.wants_of.new.conn in
    let new = state g.S.Store c.missing_among.new.conn in
    let early : HasCleanDisk mid = omega (arith, c.missing_among.ensures.survives.clean, clean) in
    let before = (c.in_ok-wants.ensures.ok early t was).1 in
    on_err _ (undone_after old mid new before (c.in_err-missing.ensures.err clean t (held_after old mid before t was)))

pub returns-in_err-missing-clause-survives : goal.returns-in_err-missing-clause-survives
returns-in_err-missing-clause-survives g c =
    let old = state g.S.Store c.args.conn.now in
    let mid = state g.S.Store c.wants_of.new.conn in
    survives_after old mid (state g.S.Store c.missing_among.new.conn)
    (λ clean t was. (c.in_ok-wants.ensures.ok clean t was).1) (survives_foreign old mid c.wants_of.ensures.survives) c.missing_among.ensures.survives

pub returns-clause-ok : goal.returns-clause-ok
unfolding missing_at
returns-clause-ok g c clean t was =
    let old = state g.S.Store c.args.conn.now in
    let mid = state g.S.Store c.wants_of.new.conn in
    let new = state g.S.Store c.missing_among.new.conn in
    let early : HasCleanDisk mid = omega (arith, c.missing_among.ensures.survives.clean, clean) in
    let first = c.in_ok-wants.ensures.ok early t was in
    let second = c.in_ok-missing.ensures.ok clean t (held_after old mid first.1 t was) in (
      second.0 ∙ ap (λ ws. length (filter (λ w. not (is_had c.args.span c.args.moment t w)) ws)) (c.deref.ensures.value ∙ first.0),
      unchanged_then old mid new first.1 (second.1.unchanged first.1.0.is_open),
    )

pub returns-clause-survives : goal.returns-clause-survives
returns-clause-survives g c =
    let old = state g.S.Store c.args.conn.now in
    let mid = state g.S.Store c.wants_of.new.conn in
    survives_after old mid (state g.S.Store c.missing_among.new.conn)
    (λ clean t was. (c.in_ok-wants.ensures.ok clean t was).1) (survives_foreign old mid c.wants_of.ensures.survives) c.missing_among.ensures.survives
