use Rattle.std.proofs.Common.{◌≡◌, ◌+◌, ◌∙◌, sym, arith, true≢false}
use Rattle.sqlite.specs.State.{HasCleanDisk}
use Rattle.sqlite.specs.Held.{state}
use Rattle.tables_meaning.specs.Coming.{bytes_at}
use Rattle.tables_meaning.proofs.BodySteps.{survives_both, unchanged_then}
use Rattle.tables_meaning.proofs.EndedLemmas.{goes_then, one_further}
use Rattle.tables_meaning.proofs.ReadsLemmas.{held_after}
use Rattle.tables_bodies.proofs.other.have_same_pieces.Goals as goal

pub returns-then-not-behind-clause-ok : goal.returns-then-not-behind-clause-ok
returns-then-not-behind-clause-ok g c clean t was = (λ yes. absurd (true≢false (sym yes)), (c.in_ok-behind.ensures.ok clean t was).1)

pub loop-at-init : goal.loop-at-init
loop-at-init g c = record {
  reference = c.has_same_piece.ensures.same_reference;
  survives = c.has_same_piece.ensures.survives;
  goes_on = λ clean inside. c.in_ok-behind.ensures.goes_on clean inside;
  same = λ clean t was.
      let read = c.in_ok-behind.ensures.ok clean t was in
      (read.1, read.0 c.if-not-behind.false, λ n none. absurd (omega (arith, none)));
}

pub returns-then-not-same-clause-ok : goal.returns-then-not-same-clause-ok
returns-then-not-same-clause-ok g c clean t was =
    let old = state g.S.Store c.args.tx.now.conn.now in
    let mid = state g.S.Store c.loop-at.tx.conn.now in
    let new = state g.S.Store c.has_same_piece-in-loop-at.new.tx.conn.now in
    let early : HasCleanDisk mid = omega (arith, c.has_same_piece-in-loop-at.ensures.survives.clean, clean) in
    let before = c.loop-at.invariant.same early t was in
    let read = c.in_ok-same.ensures.ok clean t (held_after old mid before.0 t was) in
    (λ yes. absurd (true≢false (sym yes)), unchanged_then old mid new before.0 read.1)

pub returns-then-not-same-clause-goes_on : goal.returns-then-not-same-clause-goes_on
returns-then-not-same-clause-goes_on g c clean inside =
    let old = state g.S.Store c.args.tx.now.conn.now in
    let mid = state g.S.Store c.loop-at.tx.conn.now in
    let new = state g.S.Store c.has_same_piece-in-loop-at.new.tx.conn.now in
    let early : HasCleanDisk mid = omega (arith, c.has_same_piece-in-loop-at.ensures.survives.clean, clean) in
    let on = c.loop-at.invariant.goes_on early inside in
    goes_then old mid new on (c.in_ok-same.ensures.goes_on clean on.mode)

pub loop-at-preserved : goal.loop-at-preserved
loop-at-preserved g c =
    let old = state g.S.Store c.args.tx.now.conn.now in
    let mid = state g.S.Store c.loop-at.tx.conn.now in
    let new = state g.S.Store c.has_same_piece-in-loop-at.new.tx.conn.now in
    let early = λ (clean : HasCleanDisk new). let it : HasCleanDisk mid = omega (arith, c.has_same_piece-in-loop-at.ensures.survives.clean, clean) in it in
    record {
      reference = c.has_same_piece-in-loop-at.ensures.same_reference ∙ c.loop-at.invariant.reference;
      survives = survives_both old mid new c.loop-at.invariant.survives c.has_same_piece-in-loop-at.ensures.survives;
      goes_on = λ clean inside. let on = c.loop-at.invariant.goes_on (early clean) inside in goes_then old mid new on (c.in_ok-same.ensures.goes_on clean on.mode);
      same = λ clean t was.
          let before = c.loop-at.invariant.same (early clean) t was in
          let read = c.in_ok-same.ensures.ok clean t (held_after old mid before.0 t was) in (
            unchanged_then old mid new before.0 read.1,
            before.1,
            one_further (λ n. bytes_at t c.args.body (n + 1) ≡ bytes_at t c.args.other (n + 1)) c.loop-at.at before.2 (read.0 c.if-not-same.false),
          );
    }

pub returns-clause-ok : goal.returns-clause-ok
returns-clause-ok g c clean t was =
    let at = c.loop-at.invariant.same clean t was in (
      λ _. one_further (λ n. bytes_at t c.args.body (n + 1) ≡ bytes_at t c.args.other (n + 1)) c.args.pieces
          (λ n below. at.2 n (omega (arith, below, c.loop-at-test.false))) at.1,
      at.0,
    )
