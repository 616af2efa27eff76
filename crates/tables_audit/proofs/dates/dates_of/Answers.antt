use Rattle.std.proofs.Common.{◌≡◌, ◌≤◌, ◌<◌, ℕ, ◌+◌, List, [], ◌∷◌, ◌++◌, length, map, take, get_or, sym, ap, subst, arith}
use Rattle.std.specs.List.{zip}
use Rattle.std.specs.Prelude.{All, Contains}
use Rattle.std.proofs.lemmas.List.{length-append, length-take, take_all}
use Rattle.std.proofs.lemmas.List.Elements.{All-append, All-get_or}
use Rattle.std.proofs.lemmas.List.Sorted.{Contains-permutation, IsPermutation-sym}
use Rattle.book.specs.Book.{latest}
use Rattle.tables_meaning.specs.Kept.{date_row}
use Rattle.rules.specs.declared.suite.Suite.{Suite}
use Rattle.tables.specs.Rows.{rows_of}
use Rattle.tables_audit.proofs.DatesLemmas.{all_one, as_many, date_at, dates_are, dates_more}
use Rattle.tables_audit.proofs.TextsLemmas.{some_case}
use Rattle.tables_audit.proofs.dates.dates_of.Goals as goal

pub returns-then-rows-suites-clause-none : goal.returns-then-rows-suites-clause-none
returns-then-rows-suites-clause-none c none dates are same in_range =
    omega (arith, as_many c.args.rows.now c.args.suites.now dates are same, c.if-rows-suites.true)

pub returns-in_default-clause-none : goal.returns-in_default-clause-none
returns-in_default-clause-none c none dates are same in_range =
    let suites : List Suite = c.args.suites.now in
    let i : ℕ = c.loop-suite.suite-index in
    let s : Suite = c.suite-item.result in
    let inside : i < length suites = omega (arith, c.loop-suite-test.true) in
    let early : i < length dates = omega (arith, inside, same) in
    let low : get_or dates i 0 ≤ latest = All-get_or (λ d. d ≤ latest) dates i 0 early in_range in
    c.date_of.ensures.none c.in_default.is (get_or dates i 0) low
    (Contains-permutation (map date_row (zip suites dates)) (rows_of c.args.rows.now) (date_row (s, get_or dates i 0)) (IsPermutation-sym _ _ are)
    (date_at suites dates i s same inside c.suite-item.is))

pub loop-suite-preserved : goal.loop-suite-preserved
loop-suite-preserved c =
    let suites : List Suite = c.args.suites.now in
    let dates : List ℕ = c.loop-suite.dates.items in
    let i : ℕ = c.loop-suite.suite-index in
    let s : Suite = c.suite-item.result in
    let d : ℕ = c.in-Some.date in
    let inside : i < length suites = omega (arith, c.loop-suite-test.true) in
    let own = some_case c.date_of.result (λ d. Contains (rows_of c.args.rows.now) (date_row (s, d)) × (d ≤ latest)) d c.date_of.ensures.some c.in-Some.is in
    let more : c.push.new.self.items ≡ dates ++ d ∷ [] = c.in_ok-push.ensures.items in
    let many : length dates ≡ length (take i suites) = omega (arith, length-take i suites, c.loop-suite.invariant.many) in
    record {
      many = omega (arith, ap length more, length-append dates (d ∷ []), c.loop-suite.invariant.many);
      are = subst (λ ds. All (Contains (rows_of c.args.rows.now)) (map date_row (zip (take (i + 1) suites) ds))) (sym more)
          (dates_more (rows_of c.args.rows.now) suites dates i d s inside c.suite-item.is many c.loop-suite.invariant.are own.0);
      in_range = subst (All (λ d. d ≤ latest)) (sym more) (All-append (λ d. d ≤ latest) dates (d ∷ []) c.loop-suite.invariant.in_range (all_one (λ d. d ≤ latest) d own.1));
    }

pub returns-clause-some : goal.returns-clause-some
returns-clause-some c =
    let rows = c.args.rows.now in
    let suites : List Suite = c.args.suites.now in
    let dates : List ℕ = c.loop-suite.dates.items in
    let i : ℕ = c.loop-suite.suite-index in
    let whole : take i suites ≡ suites = take_all i suites c.loop-suite-test.false in
    let many : length dates ≡ length suites = omega (arith, c.loop-suite.invariant.many, ap length whole, length-take i suites) in (
      dates_are rows suites dates c.requires.apart (omega (arith, c.if-rows-suites.false)) many
          (subst (λ us. All (Contains (rows_of rows)) (map date_row (zip us dates))) whole c.loop-suite.invariant.are),
      many,
      c.loop-suite.invariant.in_range,
    )
