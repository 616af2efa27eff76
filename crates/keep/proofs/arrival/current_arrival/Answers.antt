use Rattle.std.proofs.Common.{sym, ◌∙◌}
use Rattle.book.specs.Book.{is_arrival_of}
use Rattle.keep.proofs.Searches.{is_found, is_other, passed_over}
use Rattle.keep.proofs.arrival.current_arrival.Goals as goal

pub loop-arrival-preserved-then-not-counts : goal.loop-arrival-preserved-then-not-counts
loop-arrival-preserved-then-not-counts c =
    let counting = c.args.counting in
    sym (passed_over counting.span counting.moment (is_arrival_of c.args.name.now c.args.print) c.args.arrivals.now c.loop-arrival.arrival-index c.arrival-item.result
    c.loop-arrival-test.true c.arrival-item.is (sym c.counts.ensures ∙ c.if-not-counts.true))
    ∙ c.loop-arrival.invariant

pub loop-arrival-preserved : goal.loop-arrival-preserved
loop-arrival-preserved c =
    let counting = c.args.counting in
    sym (is_other counting.span counting.moment (is_arrival_of c.args.name.now c.args.print) c.args.arrivals.now c.loop-arrival.arrival-index c.arrival-item.result
    c.loop-arrival-test.true c.arrival-item.is (sym c.counts.ensures ∙ c.if-not-counts.false) (sym c.is_of.ensures ∙ c.if-is_of.false))
    ∙ c.loop-arrival.invariant

pub returns-then-is_of : goal.returns-then-is_of
returns-then-is_of c =
    let counting = c.args.counting in
    sym (is_found counting.span counting.moment (is_arrival_of c.args.name.now c.args.print) c.args.arrivals.now c.loop-arrival.arrival-index c.arrival-item.result
    c.loop-arrival-test.true c.arrival-item.is (sym c.counts.ensures ∙ c.if-not-counts.false) (sym c.is_of.ensures ∙ c.if-is_of.true))
    ∙ c.loop-arrival.invariant
