use Rattle.std.proofs.Common.{◌≡◌, ◌++◌, ◌∙◌, length, drop, subst, false, arith}
use Rattle.std.proofs.lemmas.List.{length-append, length-drop, length-take-le}
use Rattle.std.proofs.lemmas.Result.{err_from_is_err_and}
use Rattle.std.proofs.KnownBytes.{Consumes-trans}
use Rattle.history.specs.Receiving.{WasShort}
use Rattle.queue.proofs.Stored.{short_behind, sizes_more}
use Rattle.queue.proofs.reading.skip.Goals as goal

pub returns-in_err-skip_some-clause-refused : goal.returns-in_err-skip_some-clause-refused
returns-in_err-skip_some-clause-refused g c =
    let p = err_from_is_err_and c.from_residual.result c.from_residual.ensures.1 in
    let parts = c.loop-left.invariant.parts in
    let size = c.min-size.result in
    let is = length-take-le size c.loop-left.buffer (omega (arith, c.loop-left.invariant.room, c.min-size.ensures)) in
    rw (p.1, p.2) (short_behind false _ _ _ parts.0 c.args.whole size parts.1 (omega (arith, parts.2, c.min-size.ensures)) c.in_err-skip_some.field-0.0
    (subst (λ n. WasShort (g.R.Read.remaining c.loop-left.reader) (g.R.Read.remaining c.skip_some.new.reader) n c.in_err-skip_some.field-0.0) is c.in_err-skip_some.ensures.refused))

pub loop-left-preserved : goal.loop-left-preserved
loop-left-preserved g c =
    let parts = c.loop-left.invariant.parts in
    let size = c.min-size.result in
    let piece = c.skip_some.new.buffer in
    let buffer = c.loop-left.buffer in
    let is : length piece ≡ size = c.skip_some.ensures.same ∙ length-take-le size buffer (omega (arith, c.loop-left.invariant.room, c.min-size.ensures)) in
    record {
      room = omega (arith, length-append piece (drop size buffer), length-drop size buffer, is, c.loop-left.invariant.room, c.min-size.ensures);
      parts = (
        parts.0 ++ piece,
        Consumes-trans _ _ _ _ _ parts.1 c.in_ok-skip_some.ensures.ok,
        sizes_more parts.0 piece c.loop-left.left size c.args.whole is (omega (arith, c.min-size.ensures)) parts.2,
      );
    }
