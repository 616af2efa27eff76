use Rattle.std.proofs.Common.{refl, sym, ap, ◌∙◌, arith}
use Rattle.std.specs.List.{list_all}
use Rattle.std.proofs.lemmas.List.{drop_all}
use Rattle.sqlite.specs.Held.{state}
use Rattle.sqlite.specs.State.{HasCleanDisk}
use Rattle.tables.proofs.ReadLemmas.{on_err}
use Rattle.tables_meaning.proofs.ReadsLemmas.{held_if_rested, rests_itself, rests_then, survives_itself, survives_rested, undone_rested}
use Rattle.tables_bodies.specs.Swept.{have_arrived}
use Rattle.tables_bodies.proofs.SparedLemmas.{all_fails, all_next}
use Rattle.tables_bodies.proofs.sparing.have_all_arrived.Goals as goal

pub loop-step-init : goal.loop-step-init
loop-step-init g c = record {
  idle = λ h. h;
  survives = survives_itself (state g.S.Store c.args.conn.now);
  read = λ clean t was. (refl, rests_itself (state g.S.Store c.args.conn.now));
}

pub loop-step-preserved : goal.loop-step-preserved
loop-step-preserved g c =
    let old = state g.S.Store c.args.conn.now in
    let mid = state g.S.Store c.loop-step.conn in
    let new = state g.S.Store c.have_arrived.new.conn in (
    record {
      idle = λ was. c.have_arrived.ensures.idle (c.loop-step.invariant.idle was);
      survives = survives_rested old mid new (λ clean t was. (c.loop-step.invariant.read clean t was).1) c.loop-step.invariant.survives c.have_arrived.ensures.survives;
      read = λ clean t was.
          let early : HasCleanDisk mid = omega (arith, c.have_arrived.ensures.survives.clean, clean) in
          let before = c.loop-step.invariant.read early t was in
          let read = c.in_ok-arrived.ensures.ok clean t (held_if_rested old mid before.1 t was) in (
            all_next (λ s. have_arrived t s.plan.files_removed) c.args.steps.now c.loop-step.step-index c.step-item.result c.loop-step-test.true c.step-item.is before.0 c.in_ok-arrived.arrived (read.0 ∙ ap (have_arrived t) c.as_slice.ensures) c.if-not-arrived.false,
            rests_then old mid new before.1 read.1,
          );
    }
    )

pub returns-in_err-arrived-clause-err : goal.returns-in_err-arrived-clause-err
returns-in_err-arrived-clause-err g c clean t was =
    let old = state g.S.Store c.args.conn.now in
    let mid = state g.S.Store c.loop-step.conn in
    let new = state g.S.Store c.have_arrived.new.conn in
    let early : HasCleanDisk mid = omega (arith, c.have_arrived.ensures.survives.clean, clean) in
    let before = (c.loop-step.invariant.read early t was).1 in
    on_err _ (undone_rested old mid new before (c.in_err-arrived.ensures.err clean t (held_if_rested old mid before t was)))

pub returns-in_err-arrived-clause-survives : goal.returns-in_err-arrived-clause-survives
returns-in_err-arrived-clause-survives g c =
    survives_rested (state g.S.Store c.args.conn.now) (state g.S.Store c.loop-step.conn) (state g.S.Store c.have_arrived.new.conn)
    (λ clean t was. (c.loop-step.invariant.read clean t was).1) c.loop-step.invariant.survives c.have_arrived.ensures.survives

pub returns-then-not-arrived-clause-ok : goal.returns-then-not-arrived-clause-ok
returns-then-not-arrived-clause-ok g c clean t was =
    let old = state g.S.Store c.args.conn.now in
    let mid = state g.S.Store c.loop-step.conn in
    let new = state g.S.Store c.have_arrived.new.conn in
    let early : HasCleanDisk mid = omega (arith, c.have_arrived.ensures.survives.clean, clean) in
    let before = c.loop-step.invariant.read early t was in
    let read = c.in_ok-arrived.ensures.ok clean t (held_if_rested old mid before.1 t was) in (
      all_fails (λ s. have_arrived t s.plan.files_removed) c.args.steps.now c.loop-step.step-index c.step-item.result c.loop-step-test.true c.step-item.is before.0 c.in_ok-arrived.arrived (read.0 ∙ ap (have_arrived t) c.as_slice.ensures) c.if-not-arrived.true,
      rests_then old mid new before.1 read.1,
    )

pub returns-then-not-arrived-clause-survives : goal.returns-then-not-arrived-clause-survives
returns-then-not-arrived-clause-survives g c =
    survives_rested (state g.S.Store c.args.conn.now) (state g.S.Store c.loop-step.conn) (state g.S.Store c.have_arrived.new.conn)
    (λ clean t was. (c.loop-step.invariant.read clean t was).1) c.loop-step.invariant.survives c.have_arrived.ensures.survives

pub returns-clause-ok : goal.returns-clause-ok
returns-clause-ok g c clean t was =
    let read = c.loop-step.invariant.read clean t was in
    (ap (list_all (λ s. have_arrived t s.plan.files_removed)) (sym (drop_all c.loop-step.step-index c.args.steps.now c.loop-step-test.false)) ∙ read.0, read.1)
