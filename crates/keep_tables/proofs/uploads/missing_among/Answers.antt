use Rattle.std.proofs.Common.{length, filter, not, refl, ap, ◌∙◌, arith}
use Rattle.std.proofs.lemmas.List.{take_all}
use Rattle.sqlite.specs.Held.{state}
use Rattle.sqlite.specs.State.{HasCleanDisk}
use Rattle.tables.proofs.ReadLemmas.{on_err}
use Rattle.tables_meaning.proofs.ReadsLemmas.{held_if_rested, rests_itself, rests_then, survives_itself, survives_rested, undone_rested}
use Rattle.tables_counting.specs.Moments.{is_had}
use Rattle.keep_tables.proofs.MomentLemmas.{counted_more}
use Rattle.keep_tables.proofs.uploads.missing_among.Goals as goal

pub loop-want-init : goal.loop-want-init
loop-want-init g c = record {
  few = omega arith;
  idle = λ h. h;
  survives = survives_itself (state g.S.Store c.args.conn.now);
  read = λ clean t was. (refl, rests_itself (state g.S.Store c.args.conn.now));
}

pub loop-want-preserved : goal.loop-want-preserved
loop-want-preserved g c =
    let old = state g.S.Store c.args.conn.now in
    let mid = state g.S.Store c.loop-want.conn in
    let new = state g.S.Store c.missing_of_one.new.conn in (
    record {
      few = omega (arith, c.loop-want.invariant.few, c.in_ok-missing.ensures.small);
      idle = λ was. c.missing_of_one.ensures.idle (c.loop-want.invariant.idle was);
      survives = survives_rested old mid new (λ clean t was. (c.loop-want.invariant.read clean t was).1) c.loop-want.invariant.survives c.missing_of_one.ensures.survives;
      read = λ clean t was.
          let early : HasCleanDisk mid = omega (arith, c.missing_of_one.ensures.survives.clean, clean) in
          let before = c.loop-want.invariant.read early t was in
          let read = c.in_ok-missing.ensures.ok clean t (held_if_rested old mid before.1 t was) in (
            counted_more (is_had c.args.span c.args.moment t) c.args.wants.now c.loop-want.want-index c.want-item.result c.loop-want.count c.in_ok-missing.missing
                c.loop-want-test.true c.want-item.is before.0 read.0,
            rests_then old mid new before.1 read.1,
          );
    }
    )

pub returns-in_err-missing-clause-err : goal.returns-in_err-missing-clause-err
returns-in_err-missing-clause-err g c clean t was =
    let old = state g.S.Store c.args.conn.now in
    let mid = state g.S.Store c.loop-want.conn in
    let new = state g.S.Store c.missing_of_one.new.conn in
    let early : HasCleanDisk mid = omega (arith, c.missing_of_one.ensures.survives.clean, clean) in
    let before = (c.loop-want.invariant.read early t was).1 in
    on_err _ (undone_rested old mid new before (c.in_err-missing.ensures.err clean t (held_if_rested old mid before t was)))

pub returns-in_err-missing-clause-survives : goal.returns-in_err-missing-clause-survives
returns-in_err-missing-clause-survives g c =
    survives_rested (state g.S.Store c.args.conn.now) (state g.S.Store c.loop-want.conn) (state g.S.Store c.missing_of_one.new.conn)
    (λ clean t was. (c.loop-want.invariant.read clean t was).1) c.loop-want.invariant.survives c.missing_of_one.ensures.survives

pub returns-clause-ok : goal.returns-clause-ok
returns-clause-ok g c clean t was =
    let read = c.loop-want.invariant.read clean t was in (
      read.0 ∙ ap (λ ws. length (filter (λ w. not (is_had c.args.span c.args.moment t w)) ws)) (take_all c.loop-want.want-index c.args.wants.now c.loop-want-test.false),
      read.1,
    )
