use Rattle.std.proofs.Common.{refl, sym, ap, ◌∙◌, arith}
use Rattle.std.specs.List.{list_all}
use Rattle.std.proofs.lemmas.List.{drop_all}
use Rattle.sqlite.specs.Held.{state}
use Rattle.sqlite.specs.State.{HasCleanDisk}
use Rattle.tables.proofs.ReadLemmas.{on_err}
use Rattle.tables_meaning.proofs.ReadsLemmas.{held_if_rested, rests_if_unchanged, rests_itself, rests_then, survives_itself, survives_rested, undone_rested}
use Rattle.tables_bodies.specs.Swept.{has_arrived}
use Rattle.tables_bodies.proofs.SparedLemmas.{all_fails, all_next}
use Rattle.tables_bodies.proofs.sparing.have_arrived.Goals as goal

pub loop-file-init : goal.loop-file-init
loop-file-init g c = record {
  idle = λ h. h;
  survives = survives_itself (state g.S.Store c.args.conn.now);
  read = λ clean t was. (refl, rests_itself (state g.S.Store c.args.conn.now));
}

pub loop-file-preserved : goal.loop-file-preserved
loop-file-preserved g c =
    let old = state g.S.Store c.args.conn.now in
    let mid = state g.S.Store c.loop-file.conn in
    let new = state g.S.Store c.has_arrived.new.conn in (
    record {
      idle = λ was. c.has_arrived.ensures.idle (c.loop-file.invariant.idle was);
      survives = survives_rested old mid new (λ clean t was. (c.loop-file.invariant.read clean t was).1) c.loop-file.invariant.survives c.has_arrived.ensures.survives;
      read = λ clean t was.
          let early : HasCleanDisk mid = omega (arith, c.has_arrived.ensures.survives.clean, clean) in
          let before = c.loop-file.invariant.read early t was in
          let read = c.in_ok-arrived.ensures.ok clean t (held_if_rested old mid before.1 t was) in (
            all_next (λ f. has_arrived t f.path) c.args.files.now c.loop-file.file-index c.file-item.result c.loop-file-test.true c.file-item.is before.0 c.in_ok-arrived.arrived (read.0 ∙ ap (has_arrived t) c.as_str.ensures) c.if-not-arrived.false,
            rests_then old mid new before.1 (rests_if_unchanged mid new read.1),
          );
    }
    )

pub returns-in_err-arrived-clause-err : goal.returns-in_err-arrived-clause-err
returns-in_err-arrived-clause-err g c clean t was =
    let old = state g.S.Store c.args.conn.now in
    let mid = state g.S.Store c.loop-file.conn in
    let new = state g.S.Store c.has_arrived.new.conn in
    let early : HasCleanDisk mid = omega (arith, c.has_arrived.ensures.survives.clean, clean) in
    let before = (c.loop-file.invariant.read early t was).1 in
    on_err _ (undone_rested old mid new before (c.in_err-arrived.ensures.err clean t (held_if_rested old mid before t was)))

pub returns-in_err-arrived-clause-survives : goal.returns-in_err-arrived-clause-survives
returns-in_err-arrived-clause-survives g c =
    survives_rested (state g.S.Store c.args.conn.now) (state g.S.Store c.loop-file.conn) (state g.S.Store c.has_arrived.new.conn)
    (λ clean t was. (c.loop-file.invariant.read clean t was).1) c.loop-file.invariant.survives c.has_arrived.ensures.survives

pub returns-then-not-arrived-clause-ok : goal.returns-then-not-arrived-clause-ok
returns-then-not-arrived-clause-ok g c clean t was =
    let old = state g.S.Store c.args.conn.now in
    let mid = state g.S.Store c.loop-file.conn in
    let new = state g.S.Store c.has_arrived.new.conn in
    let early : HasCleanDisk mid = omega (arith, c.has_arrived.ensures.survives.clean, clean) in
    let before = c.loop-file.invariant.read early t was in
    let read = c.in_ok-arrived.ensures.ok clean t (held_if_rested old mid before.1 t was) in (
      all_fails (λ f. has_arrived t f.path) c.args.files.now c.loop-file.file-index c.file-item.result c.loop-file-test.true c.file-item.is before.0 c.in_ok-arrived.arrived (read.0 ∙ ap (has_arrived t) c.as_str.ensures) c.if-not-arrived.true,
      rests_then old mid new before.1 (rests_if_unchanged mid new read.1),
    )

pub returns-then-not-arrived-clause-survives : goal.returns-then-not-arrived-clause-survives
returns-then-not-arrived-clause-survives g c =
    survives_rested (state g.S.Store c.args.conn.now) (state g.S.Store c.loop-file.conn) (state g.S.Store c.has_arrived.new.conn)
    (λ clean t was. (c.loop-file.invariant.read clean t was).1) c.loop-file.invariant.survives c.has_arrived.ensures.survives

pub returns-clause-ok : goal.returns-clause-ok
returns-clause-ok g c clean t was =
    let read = c.loop-file.invariant.read clean t was in
    (ap (list_all (λ f. has_arrived t f.path)) (sym (drop_all c.loop-file.file-index c.args.files.now c.loop-file-test.false)) ∙ read.0, read.1)
