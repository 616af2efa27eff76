use Rattle.std.proofs.Common.{◌≡◌, ◌++◌, length, ap, sym, ◌∙◌, arith}
use Rattle.std.specs.List.{filter_map}
use Rattle.sqlite.specs.Held.{state}
use Rattle.sqlite.specs.State.{HasCleanDisk}
use Rattle.sqlite.proofs.Callers.{unchanged_then}
use Rattle.tables.proofs.ReadLemmas.{on_err}
use Rattle.tables_meaning.proofs.ReadsLemmas.{found_all, found_more, found_none, held_after, survives_after, undone_after, undone_if_rested}
use Rattle.keep_tables.specs.Moments.{lack_at, lacks_at}
use Rattle.keep_tables.proofs.lacks.lacks_of.Goals as goal

pub returns-in_err-want-items-clause-survives : goal.returns-in_err-want-items-clause-survives
returns-in_err-want-items-clause-survives g c =
    c.wants_by_name.ensures.survives

pub loop-want-init : goal.loop-want-init
unfolding lacks_at
loop-want-init g c = record {
  idle = c.wants_by_name.ensures.idle;
  survives = c.wants_by_name.ensures.survives;
  read = λ clean t was.
      let read = c.in_ok-want-items.ensures.ok clean t was in
      let rest = c.into_iter-want-iterator.result.rest.items in
      (ap (λ us. us ++ filter_map (lack_at c.args.span c.args.moment t) rest) c.new-lacks.ensures.items ∙ ap (filter_map (lack_at c.args.span c.args.moment t)) (c.into_iter-want-iterator.ensures.into_iter_gives.0 ∙ read.0), read.1);
}

pub loop-want-preserved : goal.loop-want-preserved
loop-want-preserved g c =
    let old = state g.S.Store c.args.conn.now in
    let mid = state g.S.Store c.loop-want.conn in
    let new = state g.S.Store c.lack_of.new.conn in (
    record {
      idle = λ was. c.lack_of.ensures.idle (c.loop-want.invariant.idle was);
      survives = survives_after old mid new (λ clean t was. (c.loop-want.invariant.read clean t was).1) c.loop-want.invariant.survives c.lack_of.ensures.survives;
      read = λ clean t was.
          let early : HasCleanDisk mid = omega (arith, c.lack_of.ensures.survives.clean, clean) in
          let before = c.loop-want.invariant.read early t was in
          let read = c.in_ok-lack.ensures.ok clean t (held_after old mid before.1 t was) in (
            found_none (lack_at c.args.span c.args.moment t) c.loop-want.lacks.items c.in-Some.want c.next.new.self.rest.items (sym c.in_default.is ∙ read.0) c.in-Some.ensures.steps.0 before.0,
            unchanged_then old mid new before.1 (read.1.unchanged before.1.0.is_open),
          );
    }
    )

pub loop-want-preserved-in-Continue-branch-4 : goal.loop-want-preserved-in-Continue-branch-4
loop-want-preserved-in-Continue-branch-4 g c =
    let old = state g.S.Store c.args.conn.now in
    let mid = state g.S.Store c.loop-want.conn in
    let new = state g.S.Store c.lack_of.new.conn in (
    record {
      idle = λ was. c.lack_of.ensures.idle (c.loop-want.invariant.idle was);
      survives = survives_after old mid new (λ clean t was. (c.loop-want.invariant.read clean t was).1) c.loop-want.invariant.survives c.lack_of.ensures.survives;
      read = λ clean t was.
          let early : HasCleanDisk mid = omega (arith, c.lack_of.ensures.survives.clean, clean) in
          let before = c.loop-want.invariant.read early t was in
          let read = c.in_ok-lack.ensures.ok clean t (held_after old mid before.1 t was) in (
            found_more (lack_at c.args.span c.args.moment t) c.loop-want.lacks.items c.in-Some.want c.next.new.self.rest.items c.in_ok-push.ensures.items (sym c.in-Some-2.is ∙ read.0)
                c.in-Some.ensures.steps.0 before.0,
            unchanged_then old mid new before.1 (read.1.unchanged before.1.0.is_open),
          );
    }
    )

pub returns-in_err-lack-clause-err : goal.returns-in_err-lack-clause-err
returns-in_err-lack-clause-err g c clean t was =
    let old = state g.S.Store c.args.conn.now in
    let mid = state g.S.Store c.loop-want.conn in
    let new = state g.S.Store c.lack_of.new.conn in
    let early : HasCleanDisk mid = omega (arith, c.lack_of.ensures.survives.clean, clean) in
    let before = (c.loop-want.invariant.read early t was).1 in
    on_err _ (undone_after old mid new before (c.in_err-lack.ensures.err clean t (held_after old mid before t was)))

pub returns-in_err-lack-clause-survives : goal.returns-in_err-lack-clause-survives
returns-in_err-lack-clause-survives g c =
    survives_after (state g.S.Store c.args.conn.now) (state g.S.Store c.loop-want.conn) (state g.S.Store c.lack_of.new.conn)
    (λ clean t was. (c.loop-want.invariant.read clean t was).1) c.loop-want.invariant.survives c.lack_of.ensures.survives

pub returns-in_err-push-clause-err : goal.returns-in_err-push-clause-err
returns-in_err-push-clause-err g c clean t was =
    let old = state g.S.Store c.args.conn.now in
    let mid = state g.S.Store c.loop-want.conn in
    let new = state g.S.Store c.lack_of.new.conn in
    let early : HasCleanDisk mid = omega (arith, c.lack_of.ensures.survives.clean, clean) in
    let before = (c.loop-want.invariant.read early t was).1 in
    let read = c.in_ok-lack.ensures.ok clean t (held_after old mid before t was) in
    on_err _ (undone_after old mid new before (undone_if_rested mid new read.1))

pub returns-in_err-push-clause-survives : goal.returns-in_err-push-clause-survives
returns-in_err-push-clause-survives g c =
    survives_after (state g.S.Store c.args.conn.now) (state g.S.Store c.loop-want.conn) (state g.S.Store c.lack_of.new.conn)
    (λ clean t was. (c.loop-want.invariant.read clean t was).1) c.loop-want.invariant.survives c.lack_of.ensures.survives

pub returns-clause-ok : goal.returns-clause-ok
returns-clause-ok g c clean t was =
    let none : length c.loop-want.want-iterator.rest.items ≡ 0 = omega (arith, c.in-None.ensures.steps.0, c.loop-want.want-iterator.rest.ok.0) in
    let read = c.loop-want.invariant.read clean t was in
    (found_all (lack_at c.args.span c.args.moment t) c.loop-want.lacks.items c.loop-want.want-iterator.rest.items none read.0, read.1)
