use Rattle.std.proofs.Common.{ℕ, List, length, get_or, sym, ap, ◌∙◌, arith, Vec, Global, ◌≤◌, ◌⊎◌, inl, inr, min}
use Rattle.std.specs.List.{zip}
use Rattle.std.specs.Option.{option_map}
use Rattle.std.proofs.lemmas.Bool.Decides.{leb_tells}
use Rattle.std.proofs.lemmas.List.{get_or_default}
use Rattle.rules.specs.declared.suite.Suite.{Suite}
use Rattle.indices.specs.Indices.{text_at, texts_from, index_text}
use Rattle.indices.proofs.Found.{found_suite, none_suite, no_suite}
use Rattle.texts.proofs.index.index_text.Goals as goal

pub returns-in-Some : goal.returns-in-Some
unfolding index_text
returns-in-Some c =
    let path : List ℕ = c.args.path.now in
    let suites : List Suite = c.suites-suites.result.now in
    let i : ℕ = c.loop-position.position in
    let m = c.min-position-end.ensures in
    let found = sym (ap (option_map (λ (v : Vec ℕ Global). v.items)) c.in-Some.is) ∙ c.in_ok-text.ensures in
    found_suite path c.args.shelves.now suites c.args.dates.now i c.index-suites-position.result _ (omega arith) (omega arith) c.index-suites-position.is
    (get_or_default c.args.dates.now i 0 (get_or c.args.dates.now i 0) (omega arith)) c.in-Some.text.items found
    ∙ c.loop-position.invariant
    ∙ ap (λ (ss : List Suite). text_at path (texts_from c.args.shelves.now 0 (zip ss c.args.dates.now))) c.suites-suites.ensures

pub loop-position-preserved : goal.loop-position-preserved
loop-position-preserved c =
    let path : List ℕ = c.args.path.now in
    let suites : List Suite = c.suites-suites.result.now in
    let i : ℕ = c.loop-position.position in
    let m = c.min-position-end.ensures in
    let none = sym (ap (option_map (λ (v : Vec ℕ Global). v.items)) c.in_default.is) ∙ c.in_ok-text.ensures in
    none_suite path c.args.shelves.now suites c.args.dates.now i c.index-suites-position.result _ (omega arith) (omega arith) c.index-suites-position.is
    (get_or_default c.args.dates.now i 0 (get_or c.args.dates.now i 0) (omega arith)) none
    ∙ c.loop-position.invariant

-- a place that is not before the smaller of two ends is not before one of them
past : (a b i : ℕ) → min a b ≤ i → (a ≤ i) ⊎ (b ≤ i)
past a b i h = elim (leb_tells a i) [
  | inl low ↦ inl low.1
  | inr high ↦ let above = high.1 in inr (omega arith)
]

pub returns : goal.returns
unfolding index_text
returns c =
    let path : List ℕ = c.args.path.now in
    let suites : List Suite = c.suites-suites.result.now in
    let i : ℕ = c.loop-position.position in
    let m = c.min-position-end.ensures in
    no_suite path c.args.shelves.now suites c.args.dates.now i (past (length suites) (length c.args.dates.now) i (omega arith))
    ∙ c.loop-position.invariant
    ∙ ap (λ (ss : List Suite). text_at path (texts_from c.args.shelves.now 0 (zip ss c.args.dates.now))) c.suites-suites.ensures
