use Rattle.std.proofs.Common.{List, length, drop, ap, ◌∙◌, subst, arith}
use Rattle.sums.specs.declared.print.Print.{Print}
use Rattle.figures.specs.Keys.{HasPrints}
use Rattle.figures.specs.Numbers.{bytes_of, each_once}
use Rattle.figures.proofs.Steps.{left_more}
use Rattle.figures.proofs.kept.contents_of.Goals as goal

pub loop-left-preserved : goal.loop-left-preserved
loop-left-preserved c =
    let prints = c.args.prints.now in
    let left = c.loop-left.left in
    let so_far = c.loop-left.invariant in
    let more = c.in_ok-contents.ensures in
    let one = left_more prints left _ (omega (arith, c.loop-left-test.true)) (omega (arith, so_far.within)) in
    record {
      within = omega (arith, more.bound, so_far.within, c.loop-left-test.true);
      seen = subst (λ (ps : List Print). HasPrints c.add_contents.new.seen ps) one (more.seen (drop left prints) so_far.seen);
      count = more.count (drop left prints) so_far.seen so_far.count ∙ ap (λ (ps : List Print). length (each_once ps)) one;
      bytes = more.bytes (drop left prints) so_far.seen so_far.bytes ∙ ap (λ (ps : List Print). bytes_of (each_once ps)) one;
    }
