use Rattle.std.proofs.Common.{◌≡◌, ◌++◌, ◌<◌, ◌+◌, ◌≤◌, ℕ, suc, List, [], ◌∷◌, Some, All, drop, get_or, length, map, slice_get, append-nil, append_assoc, sym, ap, subst, ◌∙◌, arith}
use Rattle.std.proofs.Math.Seq.{drop-cons}
use Rattle.std.proofs.lemmas.List.{drop_all, length_push}
use Rattle.std.proofs.lemmas.List.Elements.{All-push}
use Rattle.std.proofs.lemmas.Option.{slice_get-get_or}
use Rattle.std.specs.List.{enumerate_from}
use Rattle.rules.specs.declared.suite.Suite.{Suite}
use Rattle.book.specs.Book.{Book, latest}
use Rattle.book.specs.Configured.{date_under}
use Rattle.book.proofs.ReadLemmas.{reads_more}
use Rattle.suites.proofs.MovedLemmas.{suite_there}
use Rattle.renewing.proofs.configuring.dates_under.Goals as goal

-- one more date
dates_more : (f : ℕ × Suite → ℕ) (suites : List Suite) (i date : ℕ) (dates more all : List ℕ) → i < length suites → more ≡ dates ++ (date ∷ []) → ((s : Suite) → slice_get suites i ≡ Some s → date ≡ f (i, s))
    → dates ++ map f (enumerate_from i (drop i suites)) ≡ all → more ++ map f (enumerate_from (i + 1) (drop (i + 1) suites)) ≡ all
dates_more f suites i date dates more all inside made own so_far =
    let there = suite_there suites i inside in
    let s : Suite = get_or suites i there.0 in
    let plus : suc i ≡ i + 1 = omega arith in
    let at : drop i suites ≡ s ∷ drop (i + 1) suites = drop-cons suites i there.0 inside ∙ ap (λ n. s ∷ drop n suites) plus in
    let rest : List ℕ = map f (enumerate_from (i + 1) (drop (i + 1) suites)) in
    ap (λ ds. ds ++ rest) made
    ∙ append_assoc dates (date ∷ []) rest
    ∙ ap (λ d. dates ++ (d ∷ rest)) (own s (slice_get-get_or suites i there.0 inside))
    ∙ ap (λ ss. dates ++ map f (enumerate_from i ss)) (sym at)
    ∙ so_far

pub loop-position-preserved : goal.loop-position-preserved
loop-position-preserved g c =
    let k = g.K.Keeper in
    let before = c.args.keeper.now in
    let now = c.loop-position.keeper in
    let i = c.loop-position.position in
    let suites : List Suite = c.args.config.now.suites in
    let one = c.in_ok-date_under.ensures in
    let was = c.loop-position.invariant in
    let inside : i < length suites = omega (arith, ap length c.suites-position-end.ensures, c.loop-position-test.true) in
    record {
      reads = reads_more was.reads one.reads;
      served = λ clean up. one.served clean (was.served (one.reads.lasts.clean clean) up);
      dates = λ clean up.
          let clean_then = one.reads.lasts.clean clean in
          let same : k.book now ≡ k.book before = was.reads.same clean_then (was.served clean_then up) in
          dates_more (date_under (k.book before) c.args.shelves.now c.args.moment) suites i c.in_ok-date_under.field-0 c.loop-position.dates.items _ _ inside c.in_ok-push.ensures.items
          (λ s at. one.date clean s at ∙ ap (λ (b : Book). date_under b c.args.shelves.now c.args.moment (i, s)) same) (was.dates clean_then up);
      count = ap length {y = c.loop-position.dates.items ++ (c.in_ok-date_under.field-0 ∷ [])} c.in_ok-push.ensures.items ∙ length_push c.loop-position.dates.items c.in_ok-date_under.field-0 ∙ ap (λ n. n + 1) was.count;
      in_range = subst (All (λ date. date ≤ latest)) {x = c.loop-position.dates.items ++ (c.in_ok-date_under.field-0 ∷ [])} (sym c.in_ok-push.ensures.items) (All-push (λ date. date ≤ latest) c.loop-position.dates.items c.in_ok-date_under.field-0 was.in_range one.in_range);
    }

pub returns-clause-dates : goal.returns-clause-dates
returns-clause-dates g c clean up =
    let k = g.K.Keeper in
    let f = date_under (k.book c.args.keeper.now) c.args.shelves.now c.args.moment in
    let suites : List Suite = c.args.config.now.suites in
    let i = c.loop-position.position in
    let past : length suites ≤ i = omega (arith, ap length c.suites-position-end.ensures, c.loop-position-test.false) in
    sym (append-nil c.loop-position.dates.items)
    ∙ ap (λ ss. c.loop-position.dates.items ++ map f (enumerate_from i ss)) (sym (drop_all i suites past))
    ∙ c.loop-position.invariant.dates clean up
