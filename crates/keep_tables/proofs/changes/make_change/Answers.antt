use Rattle.std.proofs.Common.{◌≡◌, not, IsTrue, ap, ◌∙◌, arith}
use Rattle.sqlite.specs.Held.{state}
use Rattle.sqlite.specs.State.{HasCleanDisk}
use Rattle.tables.specs.Rows.{tables_in}
use Rattle.tables.proofs.TransactionLemmas.{on_ok}
use Rattle.tables_meaning.proofs.AmendLemmas.{err_then}
use Rattle.tables_meaning.proofs.TurnLemmas.{all_within}
use Rattle.tables_bodies.specs.Swept.{needs_sweep}
use Rattle.keep_tables.proofs.SweptChanges.{made_amends, made_crash, made_ends, made_keeps, made_open, survives_beside, undone_twice}
use Rattle.keep_tables.proofs.changes.make_change.Goals as goal

pub returns-in_err-sweeps-clause-crash : goal.returns-in_err-sweeps-clause-crash
returns-in_err-sweeps-clause-crash g c = survives_beside (state g.S.Store c.args.conn.now) (state g.S.Store c.needs_sweep.new.conn) c.needs_sweep.ensures.survives

pub returns-clause-open : goal.returns-clause-open
returns-clause-open g c clean =
    let old = state g.S.Store c.args.conn.now in
    let mid = state g.S.Store c.needs_sweep.new.conn in
    let new = state g.S.Store c.amend.new.conn in
    let settled : IsTrue mid.is_open → mid.now ≡ mid.committed = c.is_autocommit-idle.ensures.settled (c.is_autocommit-idle.ensures.value ∙ ap not c.needs_sweep.ensures.idle) in
    let late : HasCleanDisk mid = omega (arith, c.amend.ensures.crash.clean, clean) in
    made_open c.args.config.now c.args.judged c.args.change.now c.args.whole c.in_ok-sweeps.sweeps old mid c.needs_sweep.ensures.survives c.needs_sweep.ensures.unchanged settled c.requires.whole
    (λ clean prior shown dates keeps. c.in_ok-sweeps.ensures.sweeps clean c.args.config.now prior shown dates keeps ∙ ap (needs_sweep (tables_in old.committed) c.args.whole) c.as_slice-steps.ensures)
    c.amend.result new late (c.amend.ensures.done clean)

pub returns-clause-done : goal.returns-clause-done
returns-clause-done g c clean prior shown dates archive count sound =
    let old = state g.S.Store c.args.conn.now in
    let mid = state g.S.Store c.needs_sweep.new.conn in
    let new = state g.S.Store c.amend.new.conn in
    let settled : IsTrue mid.is_open → mid.now ≡ mid.committed = c.is_autocommit-idle.ensures.settled (c.is_autocommit-idle.ensures.value ∙ ap not c.needs_sweep.ensures.idle) in
    let late : HasCleanDisk mid = omega (arith, c.amend.ensures.crash.clean, clean) in
    let inside = all_within c.args.config.now.suites c.suites.result.now c.args.change.now.steps c.as_slice-steps.result.now c.stands_inside-inside.result c.stands_inside-inside.ensures c.suites.ensures c.as_slice-steps.ensures c.if-not-inside.false in
    on_ok c.amend.result
    (made_amends c.args.config.now c.args.judged c.args.change.now c.args.whole c.in_ok-sweeps.sweeps old mid c.needs_sweep.ensures.survives c.needs_sweep.ensures.unchanged settled c.requires.whole
    (λ clean prior shown dates keeps. c.in_ok-sweeps.ensures.sweeps clean c.args.config.now prior shown dates keeps ∙ ap (needs_sweep (tables_in old.committed) c.args.whole) c.as_slice-steps.ensures)
    c.requires.in_time inside c.amend.result new late (c.amend.ensures.done clean) (c.amend.ensures.bodies clean))
    (λ amends. amends prior shown dates archive count sound)

pub returns-clause-ends : goal.returns-clause-ends
returns-clause-ends g c clean takes prior shown dates archive count sound =
    let old = state g.S.Store c.args.conn.now in
    let mid = state g.S.Store c.needs_sweep.new.conn in
    let new = state g.S.Store c.amend.new.conn in
    let settled : IsTrue mid.is_open → mid.now ≡ mid.committed = c.is_autocommit-idle.ensures.settled (c.is_autocommit-idle.ensures.value ∙ ap not c.needs_sweep.ensures.idle) in
    let late : HasCleanDisk mid = omega (arith, c.amend.ensures.crash.clean, clean) in
    let inside = all_within c.args.config.now.suites c.suites.result.now c.args.change.now.steps c.as_slice-steps.result.now c.stands_inside-inside.result c.stands_inside-inside.ensures c.suites.ensures c.as_slice-steps.ensures c.if-not-inside.false in
    on_ok c.amend.result
    (made_ends c.args.config.now c.args.judged c.args.change.now c.args.whole c.in_ok-sweeps.sweeps old mid c.needs_sweep.ensures.survives c.needs_sweep.ensures.unchanged settled c.requires.whole
    (λ clean prior shown dates keeps. c.in_ok-sweeps.ensures.sweeps clean c.args.config.now prior shown dates keeps ∙ ap (needs_sweep (tables_in old.committed) c.args.whole) c.as_slice-steps.ensures)
    c.requires.in_time inside c.amend.result new late takes (c.amend.ensures.done clean) (c.amend.ensures.bodies clean))
    (λ ends. ends prior shown dates archive count sound)

pub returns-clause-beside : goal.returns-clause-beside
returns-clause-beside g c clean none prior shown dates archive =
    let old = state g.S.Store c.args.conn.now in
    let mid = state g.S.Store c.needs_sweep.new.conn in
    let new = state g.S.Store c.amend.new.conn in
    let settled : IsTrue mid.is_open → mid.now ≡ mid.committed = c.is_autocommit-idle.ensures.settled (c.is_autocommit-idle.ensures.value ∙ ap not c.needs_sweep.ensures.idle) in
    let late : HasCleanDisk mid = omega (arith, c.amend.ensures.crash.clean, clean) in
    on_ok c.amend.result
    (made_keeps c.args.config.now c.args.judged c.args.change.now c.args.whole c.in_ok-sweeps.sweeps old mid c.needs_sweep.ensures.survives c.needs_sweep.ensures.unchanged settled c.requires.whole
    (λ clean prior shown dates keeps. c.in_ok-sweeps.ensures.sweeps clean c.args.config.now prior shown dates keeps ∙ ap (needs_sweep (tables_in old.committed) c.args.whole) c.as_slice-steps.ensures)
    c.amend.result new late none (c.amend.ensures.done clean))
    (λ keeps. keeps prior shown dates archive)

pub returns-clause-undone : goal.returns-clause-undone
returns-clause-undone g c clean =
    let old = state g.S.Store c.args.conn.now in
    let mid = state g.S.Store c.needs_sweep.new.conn in
    let new = state g.S.Store c.amend.new.conn in
    let late : HasCleanDisk mid = omega (arith, c.amend.ensures.crash.clean, clean) in
    err_then c.amend.result (c.amend.ensures.undone clean) (λ undone. undone_twice old mid new (c.needs_sweep.ensures.unchanged late) undone)

pub returns-clause-crash : goal.returns-clause-crash
returns-clause-crash g c =
    let old = state g.S.Store c.args.conn.now in
    let mid = state g.S.Store c.needs_sweep.new.conn in
    let new = state g.S.Store c.amend.new.conn in
    let settled : IsTrue mid.is_open → mid.now ≡ mid.committed = c.is_autocommit-idle.ensures.settled (c.is_autocommit-idle.ensures.value ∙ ap not c.needs_sweep.ensures.idle) in
    let inside = all_within c.args.config.now.suites c.suites.result.now c.args.change.now.steps c.as_slice-steps.result.now c.stands_inside-inside.result c.stands_inside-inside.ensures c.suites.ensures c.as_slice-steps.ensures c.if-not-inside.false in
    made_crash c.args.config.now c.args.judged c.args.change.now c.args.whole c.in_ok-sweeps.sweeps old mid c.needs_sweep.ensures.survives c.needs_sweep.ensures.unchanged settled c.requires.whole
    (λ clean prior shown dates keeps. c.in_ok-sweeps.ensures.sweeps clean c.args.config.now prior shown dates keeps ∙ ap (needs_sweep (tables_in old.committed) c.args.whole) c.as_slice-steps.ensures)
    c.requires.in_time inside new c.amend.ensures.crash
