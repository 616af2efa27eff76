use Rattle.std.proofs.Common.{◌≡◌, ℕ, ◌<◌, ◌+◌, ◌-◌, ◌∷◌, List, drop, get_or, length, ap, ◌∙◌, sym, arith}
use Rattle.std.proofs.lemmas.List.{drop_more}
use Rattle.keep.specs.Scan.{counted, unjudged_in}
use Rattle.book.specs.declared.arrival.Arrival.{Arrival}
use Rattle.keep.proofs.uploads.unjudged.Goals as goal

-- the arrivals from one place earlier on
earlier : (arrivals : List Arrival) (left : ℕ) (a : Arrival) → 0 < left → left - 1 < length arrivals → a ≡ get_or arrivals (left - 1) a
    → drop (left - 1) arrivals ≡ a ∷ drop left arrivals
earlier arrivals left a some within is =
    let back : left - 1 + 1 ≡ left = omega arith in
    drop_more arrivals (left - 1) a within ∙ ap (λ x. x ∷ drop (left - 1 + 1) arrivals) (sym is) ∙ ap (λ i. a ∷ drop i arrivals) back

pub loop-left-preserved : goal.loop-left-preserved
loop-left-preserved c = record {
  within = omega arith;
  found =
      let within : c.loop-left.left - 1 < length c.args.arrivals.now = omega arith in
      c.in_ok-add_unjudged.ensures (drop c.loop-left.left c.args.arrivals.now) c.loop-left.invariant.found
      ∙ ap (λ xs. unjudged_in (counted c.args.counting xs) c.args.judged.now) (sym (earlier c.args.arrivals.now c.loop-left.left c.index-arrivals-left.result c.loop-left-test.true within c.index-arrivals-left.is));
}
