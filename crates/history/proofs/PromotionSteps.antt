-- The source packages of a promotion in their order, and the steps of their copies.
use Rattle.std.proofs.Common.{◌≡◌, ℕ, Bool, true, false, cond, List, [], ◌∷◌, ◌++◌, map, filter, Option, nat_eq, refl, sym, ap, subst, ◌∙◌, append-nil, String, Global}
use Rattle.std.specs.List.{cons_option}
use Rattle.std.specs.BTreeSet.{insert_key}
use Rattle.std.specs.Ordering.{match_ordering}
use Rattle.std.specs.String.{string_cmp, string_bytes}
use Rattle.std.specs.declared.cmp.Ordering.{Ordering}
use Rattle.std.specs.declared.cmp.Ordering.TheVariants.{Less, Equal, Greater}
use Rattle.std.proofs.lemmas.Grind.{fold-append}
use Rattle.std.proofs.lemmas.List.{map-append}
use Rattle.std.proofs.lemmas.List.Elements.{filter-append}
use Rattle.rules.specs.Values.{ConfigValue}
use Rattle.suites.specs.Plan.{after_copy}
use Rattle.suites.specs.Shelves.{ShelvesValue}
use Rattle.suites.specs.declared.item.Item.{Item}
use Rattle.suites.specs.declared.key.ShelfKey.{ShelfKey}
use Rattle.book.specs.Book.{judgements, shown_past}
use Rattle.book.specs.Keeping.{AreSteps}
use Rattle.book.specs.declared.change.Judgement.{Judgement}
use Rattle.book.specs.declared.change.Step.{Step}
use Rattle.history.specs.Archives.{each_once, with_name}
use Rattle.history.specs.Promotions.{AreCopied, IsCopyStep, after_copies, copies_on, items_put}

-- ---- names

-- one more key, by its bytes
pub named-insert : (keys : List (String Global)) (k : String Global) → map string_bytes (insert_key string_cmp keys k) ≡ with_name (map string_bytes keys) (string_bytes k)
named-insert [] k = refl
named-insert (x ∷ xs) k = by_order (string_cmp k x) (named-insert xs k)
  where
    by_order : (o : Ordering) → map string_bytes (insert_key string_cmp xs k) ≡ with_name (map string_bytes xs) (string_bytes k)
        → map string_bytes (match_ordering o (k ∷ x ∷ xs) (x ∷ xs) (x ∷ insert_key string_cmp xs k))
        ≡ match_ordering o (string_bytes k ∷ string_bytes x ∷ map string_bytes xs) (string_bytes x ∷ map string_bytes xs) (string_bytes x ∷ with_name (map string_bytes xs) (string_bytes k))
    by_order Less rest = refl
    by_order Equal rest = refl
    by_order Greater rest = ap (λ names. string_bytes x ∷ names) rest

pub each_once-push : (names : List (List ℕ)) (name : List ℕ) → each_once (names ++ name ∷ []) ≡ with_name (each_once names) name
unfolding each_once
each_once-push names name = fold-append with_name [] names (name ∷ [])

-- the source packages of these items that are of the suite
abbrev pub sources_among : ℕ → List (ShelfKey × Item) → List (List ℕ)
sources_among suite es = map (λ (e : ShelfKey × Item). e.1.source) (filter (λ (e : ShelfKey × Item). nat_eq e.0.suite suite) es)

-- one more item adds its source package
pub source-push : (suite : ℕ) (done : List (ShelfKey × Item)) (e : ShelfKey × Item)
    → cond (nat_eq e.0.suite suite) (with_name (each_once (sources_among suite done)) e.1.source) (each_once (sources_among suite done)) ≡ each_once (sources_among suite (done ++ e ∷ []))
source-push suite done e =
    last (nat_eq e.0.suite suite)
    ∙ ap each_once
    (sym (ap (map source) (filter-append in_suite done (e ∷ [])) ∙ map-append source (filter in_suite done) (filter in_suite (e ∷ []))))
  where
    in_suite : ShelfKey × Item → Bool
    in_suite a = nat_eq a.0.suite suite

    source : ShelfKey × Item → List ℕ
    source a = a.1.source

    last : (b : Bool) → cond b (with_name (each_once (sources_among suite done)) e.1.source) (each_once (sources_among suite done)) ≡ each_once (sources_among suite done ++ map source (cond b (e ∷ []) []))
    last true = sym (each_once-push (sources_among suite done) e.1.source)
    last false = ap each_once (sym (append-nil (sources_among suite done)))

-- ---- steps

module _ (config : ConfigValue) (from to : ℕ) where
  -- one more copy, made of what the others leave
  pub copied-push : (shelves : ShelvesValue) (sources : List (List ℕ)) (steps : List Step) (source : List ℕ) (step : Step) → AreCopied config from to shelves sources steps
      → IsCopyStep config (after_copies config from to shelves sources) from to source step → AreCopied config from to shelves (sources ++ source ∷ []) (steps ++ step ∷ [])
  copied-push shelves [] [] source step are is = (is, tt)
  copied-push shelves [] (t ∷ ts) source step are is = absurd are
  copied-push shelves (s ∷ ss) [] source step are is = absurd are
  copied-push shelves (s ∷ ss) (t ∷ ts) source step are is = (are.0, copied-push (after_copy config shelves from to s) ss ts source step are.1 is)

  -- the answer of one more copy
  pub copies-push : (shelves : ShelvesValue) (sources : List (List ℕ)) (steps : List Step) (source : List ℕ) (step : Step) → AreCopied config from to shelves sources steps
      → copies_on config from to shelves (sources ++ source ∷ []) (steps ++ step ∷ [])
      ≡ copies_on config from to shelves sources steps ++ (source, items_put (after_copies config from to shelves sources) from source step) ∷ []
  copies-push shelves [] [] source step are = refl
  copies-push shelves [] (t ∷ ts) source step are = absurd are
  copies-push shelves (s ∷ ss) [] source step are = absurd are
  copies-push shelves (s ∷ ss) (t ∷ ts) source step are =
      ap (λ rest. (s, items_put shelves from s t) ∷ rest) (copies-push (after_copy config shelves from to s) ss ts source step are.1)

  -- the steps are sound
  pub copies_are_steps : (shelves : ShelvesValue) (sources : List (List ℕ)) (steps : List Step) → AreCopied config from to shelves sources steps → AreSteps shelves steps
  copies_are_steps shelves [] [] are = tt
  copies_are_steps shelves [] (t ∷ ts) are = absurd are
  copies_are_steps shelves (s ∷ ss) [] are = absurd are
  copies_are_steps shelves (s ∷ ss) (t ∷ ts) are =
      ((after_copy config shelves from to s, are.0.plan), subst (λ now. AreSteps now ts) are.0.plan.items.made (copies_are_steps (after_copy config shelves from to s) ss ts are.1))

  -- no step of a copy judges
  pub copies_judge_none : (shelves : ShelvesValue) (sources : List (List ℕ)) (steps : List Step) → AreCopied config from to shelves sources steps → judgements steps ≡ []
  copies_judge_none shelves [] [] are = refl
  copies_judge_none shelves [] (t ∷ ts) are = absurd are
  copies_judge_none shelves (s ∷ ss) [] are = absurd are
  copies_judge_none shelves (s ∷ ss) (t ∷ ts) are =
      ap (λ (o : Option Judgement). cons_option o (judgements ts)) are.0.judgement ∙ copies_judge_none (after_copy config shelves from to s) ss ts are.1

  -- what they leave shown is what the copies leave
  pub past_copies : (shelves : ShelvesValue) (sources : List (List ℕ)) (steps : List Step) → AreCopied config from to shelves sources steps → after_copies config from to shelves sources ≡ shown_past shelves steps
  past_copies shelves [] [] are = refl
  past_copies shelves [] (t ∷ ts) are = absurd are
  past_copies shelves (s ∷ ss) [] are = absurd are
  past_copies shelves (s ∷ ss) (t ∷ ts) are =
      past_copies (after_copy config shelves from to s) ss ts are.1 ∙ ap (λ (m : ShelvesValue). shown_past m ts) are.0.plan.items.made
