-- The items that a copy takes.
use Rattle.std.proofs.Common.{◌≡◌, ◌≢◌, inl, inr, ℕ, zero, suc, Bool, true, false, cond, ◌&&◌, List, [], ◌∷◌, ◌++◌, map, filter, bytes_eq, refl, sym, ap, subst, ◌∙◌, Some, arith}
use Rattle.std.specs.Prelude.{All, AllPairs, Contains, T, nat_eq, option_to_list, slice_get}
use Rattle.std.specs.List.{flat_map}
use Rattle.std.specs.Ordering.{is_lt}
use Rattle.std.specs.declared.cmp.Ordering.{Ordering}
use Rattle.std.specs.Cmp.{tied_itself}
use Rattle.std.specs.FinMap.{entries, values, entries_sorted, get, is_sorted}
use Rattle.std.specs.FinMap.Entries.{below_all}
use Rattle.std.proofs.lemmas.List.{map-append, append-nil}
use Rattle.std.proofs.lemmas.List.Elements.{All-contains, All-head, All-tail, All-filter, All-map, All-contains_itself, Contains-append_cases, filter-append, filter_passes}
use Rattle.std.proofs.lemmas.Bool.{eqb-true, and_parts}
use Rattle.sums.proofs.Members.{all_from, contains_map, from_map, here, there}
use Rattle.rules.specs.Values.{ConfigValue}
use Rattle.rules.specs.Suites.{keeps_architecture, keeps_component}
use Rattle.rules.specs.declared.suite.Suite.{Suite}
use Rattle.sums.specs.declared.print.Print.{Print}
use Rattle.suites.specs.Admission.{MayJoin}
use Rattle.suites.specs.Items.{standing, IsAtHome}
use Rattle.suites.specs.Keys.{key_order}
use Rattle.suites.specs.KeyLemmas.{key_order_total}
use Rattle.suites.specs.Plan.{is_copied, is_of_source, copied, kept_by, shelves_of}
use Rattle.suites.specs.Pool.{files_of}
use Rattle.suites.specs.Shelves.{ShelvesValue, AreSound}
use Rattle.suites.specs.declared.item.Item.{Item}
use Rattle.suites.specs.declared.key.ShelfKey.{ShelfKey}
use Rattle.suites.proofs.EntryLemmas.{and_left, and_right, below-at, sorted-filter}
use Rattle.suites.proofs.FileMembers.{files_contain, item_of_file, shown_entry}

-- one item more of those that pass
pub passing-push : (test : ShelfKey × Item → Bool) (done : List (ShelfKey × Item)) (e : ShelfKey × Item)
    → map (λ a. a.1) (filter test done) ++ cond (test e) (e.1 ∷ []) [] ≡ map (λ a. a.1) (filter test (done ++ e ∷ []))
passing-push test done e =
    let item : ShelfKey × Item → Item = λ (a : ShelfKey × Item). a.1 in
    sym (ap (map item) (filter-append test done (e ∷ [])) ∙ map-append item (filter test done) (filter test (e ∷ [])) ∙ ap (λ items. map item (filter test done) ++ items) (last (test e)))
  where
    last : (b : Bool) → map {B = Item} (λ (a : ShelfKey × Item). a.1) (cond b (e ∷ []) []) ≡ cond b (e.1 ∷ []) []
    last true = refl
    last false = refl

-- an entry of a suite, on its own shelf
abbrev InSuite : ℕ → ShelfKey × Item → Type 0
InSuite from e = IsAtHome e × (e.0.suite ≡ from)

copied_suite : (from : ℕ) (source : List ℕ) (target : Suite) (e : ShelfKey × Item) → is_copied from source target e ≡ true → e.0.suite ≡ from
unfolding is_copied
copied_suite from source target e h =
    let suite = nat_eq e.0.suite from in
    let named = bytes_eq e.1.source source in
    let component = keeps_component target e.1.component in
    let architecture = keeps_architecture target e.1.architecture in
    eqb-true e.0.suite from (and_parts suite named (and_parts (suite && named) component (and_parts ((suite && named) && component) architecture h).0).0).0

less_other : (k j : ShelfKey) → T (is_lt (key_order k j)) → k ≢ j
less_other k j less same = absurd (subst (λ (r : Ordering). T (is_lt r)) (ap (key_order k) (sym same) ∙ tied_itself key_order_total k) less)

-- entries of one suite for the same thing have one key
same_shelf : (from to : ℕ) (e f : ShelfKey × Item) → InSuite from e → InSuite from f → (standing to e.1).0 ≡ (standing to f.1).0 → e.0 ≡ f.0
same_shelf from to e f h i same =
    key_at e h ∙ ap (λ (k : ShelfKey). record { suite = from; kind = k.kind; «package» = k.«package»; architecture = k.architecture }) same ∙ sym (key_at f i)
  where
    key_at : (g : ShelfKey × Item) → InSuite from g → g.0 ≡ record { suite = from; kind = g.1.kind; «package» = g.1.«package»; architecture = g.1.architecture }
    key_at g j = ap (λ (z : ShelfKey × Item). z.0) j.0 ∙ ap (λ n. record { suite = n; kind = g.1.kind; «package» = g.1.«package»; architecture = g.1.architecture }) j.1

-- in another suite they have shelves of their own
pub standing_apart : (from to : ℕ) (es : List (ShelfKey × Item)) → T (is_sorted key_order es) → All (InSuite from) es
    → AllPairs (λ a b. a.0 ≢ b.0) (map (standing to) (map (λ e. e.1) es))
standing_apart from to [] sorted home i j d below lt = absurd (omega arith)
standing_apart from to (e ∷ es) sorted home zero zero d below lt = absurd (omega arith)
standing_apart from to (e ∷ es) sorted home zero (suc j) d below lt =
    All-map (λ (b : ShelfKey × Item). (standing to e.1).0 ≢ b.0) (standing to) (map (λ e. e.1) es)
    (All-map (λ (y : Item). (standing to e.1).0 ≢ (standing to y).0) (λ (f : ShelfKey × Item). f.1) es
    (all_from (λ f. (standing to e.1).0 ≢ (standing to f.1).0) es (λ f h same.
    less_other e.0 f.0 (behind f h) (same_shelf from to e f (All-head (InSuite from) e es home) (All-contains (InSuite from) es f (All-tail (InSuite from) e es home) h) same))))
    j d (omega arith)
  where
    behind : (f : ShelfKey × Item) → Contains es f → T (is_lt (key_order e.0 f.0))
    behind f h = subst (λ (g : ShelfKey × Item). T (is_lt (key_order e.0 g.0))) h.2 (below-at key_order e.0 es h.0 f h.1 (and_left _ _ sorted))
standing_apart from to (e ∷ es) sorted home (suc i) zero d below lt = absurd (omega arith)
standing_apart from to (e ∷ es) sorted home (suc i) (suc j) d below lt =
    standing_apart from to es (and_right (below_all key_order e.0 es) _ sorted) (All-tail (InSuite from) e es home) i j d (omega arith) (omega arith)

module _ (shelves : ShelvesValue) (from to : ℕ) (source : List ℕ) (target : Suite) where
  abbrev pub taken : List Item
  taken = map (λ a. a.1) (filter (is_copied from source target) (entries shelves))

  -- the items that are copied are shown
  taken_shown : (x : Item) → Contains (map (λ a. a.1) (map (standing to) taken)) x → Contains (values shelves) x
  taken_shown x h =
      let a = from_map (λ (a : ShelfKey × Item). a.1) x (map (standing to) taken) h in
      let y = from_map (standing to) a.0 taken a.1 in
      let e = from_map (λ (a : ShelfKey × Item). a.1) y.0 (filter (is_copied from source target) (entries shelves)) y.1 in
      let there = All-contains (Contains (entries shelves)) (filter (is_copied from source target) (entries shelves)) e.0
      (All-filter (is_copied from source target) (Contains (entries shelves)) (entries shelves) (All-contains_itself (entries shelves))) e.1 in
      subst (Contains (values shelves)) (e.2 ∙ ap (λ (z : ShelfKey × Item). z.1) y.2 ∙ a.2) (contains_map (λ (a : ShelfKey × Item). a.1) e.0 (entries shelves) there)

  files_shown : (f : List ℕ × Print) → Contains (files_of (values shelves) ++ files_of (map (λ a. a.1) (map (standing to) taken))) f → Contains (files_of (values shelves)) f
  files_shown f h = elim (Contains-append_cases (files_of (values shelves)) (files_of (map (λ a. a.1) (map (standing to) taken))) f h) [
    | inl before ↦ before
    | inr own ↦ (let x = item_of_file (map (λ a. a.1) (map (standing to) taken)) f own in files_contain (values shelves) x.0 f (taken_shown x.0 x.1) x.2)
  ]

  pub copies_join : AreSound shelves → MayJoin shelves (map (standing to) taken)
  copies_join sound = record {
    apart = standing_apart from to (filter (is_copied from source target) (entries shelves))
        (sorted-filter key_order (is_copied from source target) (entries shelves) (entries_sorted shelves))
        (all_from (InSuite from) (filter (is_copied from source target) (entries shelves)) (λ e h. (
          All-contains IsAtHome (filter (is_copied from source target) (entries shelves)) e (All-filter (is_copied from source target) IsAtHome (entries shelves) sound.at_home) h,
          copied_suite from source target e
              (All-contains (λ e. is_copied from source target e ≡ true) (filter (is_copied from source target) (entries shelves)) e (filter_passes (is_copied from source target) (entries shelves)) h),
        )));
    agreed = λ path a b p q. sound.agreed path a b (files_shown (path, a) p) (files_shown (path, b) q);
  }

  pub copied-is : (config : ConfigValue) → slice_get config.suites to ≡ Some target → copied config shelves from to source ≡ map (standing to) taken
  unfolding copied
  copied-is config at =
      ap (λ o. flat_map (λ (target : Suite). map (λ a. standing to a.1) (filter (is_copied from source target) (entries shelves))) (option_to_list o)) at
      ∙ append-nil _ ∙ map-map (filter (is_copied from source target) (entries shelves))
    where
      map-map : (es : List (ShelfKey × Item)) → map (λ a. standing to a.1) es ≡ map (standing to) (map (λ a. a.1) es)
      map-map [] = refl
      map-map (e ∷ es) = ap (λ rest. standing to e.1 ∷ rest) (map-map es)

-- ---- the items from their shelves

module _ (shelves : ShelvesValue) (from : ℕ) (source : List ℕ) (target : Suite) where
  abbrev kept_at : ShelfKey → List Item
  kept_at key = kept_by target (get shelves key)

  abbrev first : List (ShelfKey × Item) → List ShelfKey
  first es = map (λ a. a.0) es

  abbrev second : List (ShelfKey × Item) → List Item
  second es = map (λ a. a.1) es

  -- one entry more in front of those that pass
  added : (e : ShelfKey × Item) (es : List (ShelfKey × Item)) (b : Bool) → cond b (e.1 ∷ []) [] ++ second es ≡ second (cond b (e ∷ es) es)
  added e es true = refl
  added e es false = refl

  kept_first : (e : ShelfKey × Item) (xs ys : List (ShelfKey × Item)) (b k a : Bool) → kept_at e.0 ≡ cond (k && a) (e.1 ∷ []) [] → flat_map kept_at (first xs) ≡ second ys
      → flat_map kept_at (first (cond b (e ∷ xs) xs)) ≡ second (cond ((b && k) && a) (e ∷ ys) ys)
  kept_first e xs ys true k a there rest = (λ i. there i ++ rest i) ∙ added e ys (k && a)
  kept_first e xs ys false k a there rest = rest

  kept_of : (es : List (ShelfKey × Item)) → ((e : ShelfKey × Item) → Contains es e → get shelves e.0 ≡ Some e.1)
      → flat_map kept_at (first (filter (is_of_source from source) es)) ≡ second (filter (is_copied from source target) es)
  unfolding is_of_source is_copied
  kept_of [] h = refl
  kept_of (e ∷ es) h =
      kept_first e (filter (is_of_source from source) es) (filter (is_copied from source target) es) (nat_eq e.0.suite from && bytes_eq e.1.source source)
      (keeps_component target e.1.component) (keeps_architecture target e.1.architecture) (ap (kept_by target) (h e (here e es))) (kept_of es (λ d at. h d (there e d es at)))

  -- the kept items of these shelves are those that a copy takes
  pub kept-taken : flat_map kept_at (shelves_of shelves from source) ≡ map (λ a. a.1) (filter (is_copied from source target) (entries shelves))
  unfolding shelves_of
  kept-taken = kept_of (entries shelves) (shown_entry shelves)
