use Rattle.std.proofs.Common.{◌++◌, ◌∙◌, ◌+◌, ◌-◌, rules, arith, length, take, sym, ap, subst, le_refl}
use Rattle.std.proofs.lemmas.Slice.{take-put_mid_below}
use Rattle.std.specs.Io.KnownBytes.{Consumes}
use Rattle.std.proofs.KnownBytes.{Consumes-trans}
use borrow.Rule.Slice.PartMut.{put_mid}
use Rattle.queue.proofs.ReaderLemmas.{take_split, slice_range-put_mid}
use Rattle.queue.proofs.reading.fill.Goals as goal

pub loop-at-preserved : goal.loop-at-preserved
loop-at-preserved g c =
    let from = c.loop-at.at in
    let old = c.loop-at.buf in
    let read = c.read_some.new.buf in
    let count = c.in_ok-count.count in
    let room = length old - from in
    let within = c.loop-at.invariant.1 in
    let part = slice_range-put_mid from room count old read within c.in_ok-count.ensures.bound.0 in
    let joined = take_split from (from + count) old (put_mid from room old read) (omega arith) (take-put_mid_below _ _ _ _ _ (le_refl _) within) in
    (search rules, search rules, subst (Consumes _ _) (ap (λ l. take from old ++ l) (sym part) ∙ joined) (Consumes-trans _ _ _ _ _ c.loop-at.invariant.2 c.in_ok-count.ensures.ok))
