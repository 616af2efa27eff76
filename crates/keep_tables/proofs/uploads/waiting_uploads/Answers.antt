use Rattle.std.proofs.Common.{◌≡◌, ◌++◌, length, map, ap, ◌∙◌, arith}
use Rattle.sqlite.specs.Held.{state}
use Rattle.sqlite.specs.State.{HasCleanDisk}
use Rattle.sqlite.proofs.Callers.{unchanged_then}
use Rattle.tables.proofs.ReadLemmas.{on_err}
use Rattle.tables_meaning.proofs.ReadsLemmas.{held_after, made_all, made_more, survives_after, undone_after, undone_if_unchanged}
use Rattle.keep_tables.specs.Moments.{waiting_at}
use Rattle.keep_tables.proofs.uploads.waiting_uploads.Goals as goal

pub returns-in_err-id-items-clause-survives : goal.returns-in_err-id-items-clause-survives
returns-in_err-id-items-clause-survives g c =
    c.wanting_in_order.ensures.survives

pub loop-id-init : goal.loop-id-init
loop-id-init g c = record {
  idle = c.wanting_in_order.ensures.idle;
  survives = c.wanting_in_order.ensures.survives;
  read = λ clean t was.
      let read = c.in_ok-items.ensures.ok clean t was in
      let rest = c.into_iter-id-iterator.result.rest.items in
      (ap (λ ws. ws ++ map (waiting_at c.args.span c.args.moment t) rest) c.new-waiting.ensures.items ∙ ap (map (waiting_at c.args.span c.args.moment t)) (c.into_iter-id-iterator.ensures.into_iter_gives.0 ∙ read.0), read.1);
}

pub loop-id-preserved : goal.loop-id-preserved
loop-id-preserved g c =
    let old = state g.S.Store c.args.conn.now in
    let mid = state g.S.Store c.loop-id.conn in
    let new = state g.S.Store c.lacks_of.new.conn in (
    record {
      idle = λ was. c.lacks_of.ensures.idle (c.loop-id.invariant.idle was);
      survives = survives_after old mid new (λ clean t was. (c.loop-id.invariant.read clean t was).1) c.loop-id.invariant.survives c.lacks_of.ensures.survives;
      read = λ clean t was.
          let early : HasCleanDisk mid = omega (arith, c.lacks_of.ensures.survives.clean, clean) in
          let before = c.loop-id.invariant.read early t was in
          let read = c.in_ok-lacks.ensures.ok clean t (held_after old mid before.1 t was) in (
            made_more (waiting_at c.args.span c.args.moment t) c.loop-id.waiting.items (c.in-Some.id, c.in-Some.upload) c.next.new.self.rest.items c.in_ok-push.ensures.items
                (ap (λ lacks. record { name = c.in-Some.upload.name; print = c.in-Some.upload.print; lacks = lacks }) (c.from_vec.ensures ∙ read.0)) c.in-Some.ensures.steps.0 before.0,
            unchanged_then old mid new before.1 read.1,
          );
    }
    )

pub returns-in_err-lacks-clause-err : goal.returns-in_err-lacks-clause-err
returns-in_err-lacks-clause-err g c clean t was =
    let old = state g.S.Store c.args.conn.now in
    let mid = state g.S.Store c.loop-id.conn in
    let new = state g.S.Store c.lacks_of.new.conn in
    let early : HasCleanDisk mid = omega (arith, c.lacks_of.ensures.survives.clean, clean) in
    let before = (c.loop-id.invariant.read early t was).1 in
    on_err _ (undone_after old mid new before (c.in_err-lacks.ensures.err clean t (held_after old mid before t was)))

pub returns-in_err-lacks-clause-survives : goal.returns-in_err-lacks-clause-survives
returns-in_err-lacks-clause-survives g c =
    survives_after (state g.S.Store c.args.conn.now) (state g.S.Store c.loop-id.conn) (state g.S.Store c.lacks_of.new.conn)
    (λ clean t was. (c.loop-id.invariant.read clean t was).1) c.loop-id.invariant.survives
    c.lacks_of.ensures.survives

pub returns-in_err-push-clause-err : goal.returns-in_err-push-clause-err
returns-in_err-push-clause-err g c clean t was =
    let old = state g.S.Store c.args.conn.now in
    let mid = state g.S.Store c.loop-id.conn in
    let new = state g.S.Store c.lacks_of.new.conn in
    let early : HasCleanDisk mid = omega (arith, c.lacks_of.ensures.survives.clean, clean) in
    let before = (c.loop-id.invariant.read early t was).1 in
    let read = c.in_ok-lacks.ensures.ok clean t (held_after old mid before t was) in
    on_err _ (undone_after old mid new before (undone_if_unchanged mid new read.1))

pub returns-in_err-push-clause-survives : goal.returns-in_err-push-clause-survives
returns-in_err-push-clause-survives g c =
    survives_after (state g.S.Store c.args.conn.now) (state g.S.Store c.loop-id.conn) (state g.S.Store c.lacks_of.new.conn)
    (λ clean t was. (c.loop-id.invariant.read clean t was).1) c.loop-id.invariant.survives
    c.lacks_of.ensures.survives

pub returns-clause-ok : goal.returns-clause-ok
returns-clause-ok g c clean t was =
    let none : length c.loop-id.id-iterator.rest.items ≡ 0 = omega (arith, c.in-None.ensures.steps.0, c.loop-id.id-iterator.rest.ok.0) in
    made_all (waiting_at c.args.span c.args.moment t) c.loop-id.waiting.items c.loop-id.id-iterator.rest.items none (c.loop-id.invariant.read clean t was).0
