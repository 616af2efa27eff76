-- The texts of suites, row after row.
use Rattle.std.proofs.Common.{◌≡◌, ◌≢◌, ◌↔◌, ◌<◌, ◌≤◌, ℕ, zero, suc, ◌+◌, ◌-◌, true, false, IsTrue, List, [], ◌∷◌, ◌++◌, map, codes, length, drop, get_or, Option, Some, slice_get, IsPermutation, refl, sym, ap, subst, ◌∙◌, arith}
use Rattle.std.specs.List.{AllByRecursion, zip}
use Rattle.std.specs.Option.{IfSome, option_map_or}
use Rattle.std.specs.Prelude.{All, AllPairs, Contains}
use Rattle.std.proofs.lemmas.List.{drop_all, length-append, length-map}
use Rattle.std.proofs.lemmas.List.Elements.{All-append, All-cons, All-from_recursion, All-nil, recursion_from_All}
use Rattle.std.proofs.lemmas.List.Sorted.{Contains-permutation, IsPermutation-sym, length_permutation}
use Rattle.sqlite_keyed.proofs.ListLemmas.{ascending_weaker}
use Rattle.rules.specs.Values.{ConfigValue}
use Rattle.rules.specs.declared.suite.Suite.{Suite}
use Rattle.suites.specs.Shelves.{ShelvesValue}
use Rattle.sums.proofs.Members.{all_from}
use Rattle.tables.proofs.Pairwise.{ascending_from_pairs}
use Rattle.tables.specs.Rows.{Numbered, rows_of}
use Rattle.tables.specs.declared.rows.TextRow.{TextRow}
use Rattle.indices.proofs.Apart.{PathsDiffer}
use Rattle.indices.specs.Indices.{PathText, folder_texts, suite_texts, texts_from}
use Rattle.indices.specs.Positions.{release_at}
use Rattle.indices.specs.Release.{index_of, indices_of, listed_texts, release_text}
use Rattle.indices.specs.declared.index.Index.{Index}
use Rattle.tables_meaning.specs.Founding.{from_root, suite_texts_at}
use Rattle.tables_meaning.proofs.Orders.{contained_permutes}
use Rattle.tables_matching.specs.Rows.{text_in}
use Rattle.tables_audit.specs.TextRows.{ArePrintsOf, IsPrintAmong, print_from_root, texts_in}
use Rattle.tables_audit.specs.declared.text_print.TextPrint.{TextPrint}

-- ---- each of several

all_parts : {X : Type 0} (P : X → Type 0) (xs ys : List X) → AllByRecursion P (xs ++ ys) → AllByRecursion P xs × AllByRecursion P ys
all_parts P [] ys all = (tt, all)
all_parts P (x ∷ xs) ys all = let more = all_parts P xs ys all.1 in ((all.0, more.0), more.1)

module _ {X : Type 0} (C : X → Type 0) where
  all_front : (front more : List X) → All C (front ++ more) → All C front
  all_front front more all = All-from_recursion C front (all_parts C front more (recursion_from_All C (front ++ more) all)).0

  all_behind : (front more : List X) → All C (front ++ more) → All C more
  all_behind front more all = All-from_recursion C more (all_parts C front more (recursion_from_All C (front ++ more) all)).1

  module _ {P : Type 0} (front more : List X) (left : ℕ) (h : P ↔ (All C (front ++ more) × (left ≡ length (front ++ more)))) where
    -- if C holds of each of the front, the question is about the others, and their number
    pub same_behind : (count : ℕ) → All C front → count ≡ length front → count ≤ left → P ↔ (All C more × (left - count ≡ length more))
    same_behind count have is few = (
      λ p. let both = h.0 p in (all_behind front more both.0, omega (arith, both.1, length-append front more, is, few)),
      λ both. h.1 (All-append C front more have both.0, omega (arith, both.1, length-append front more, is, few)),
    )

    -- C does not hold of some of the front
    pub other_front : (All C front → ⊥) → IsTrue false ↔ P
    other_front none = (λ no. absurd (cc no), λ p. absurd (none (all_front front more (h.0 p).0)))

    -- the front is longer than what is left
    pub too_many : (count : ℕ) → count ≡ length front → left < count → IsTrue false ↔ P
    too_many count is over = (λ no. absurd (cc no), λ p. absurd (omega (arith, (h.0 p).1, length-append front more, is, over)))

-- all texts of a suite are there if the first is, and the others
pub all_of_suite : {X : Type 0} (C : X → Type 0) (suite others : List X) (first : X) → suite ≡ first ∷ others → All C suite ↔ (C first × All C others)
all_of_suite C suite others first whole = (
  λ all. let parts = recursion_from_All C (first ∷ others) (subst (All C) whole all) in (parts.0, All-from_recursion C others parts.1),
  λ both. subst (All C) (sym whole) (All-cons C first others both.0 both.1),
)

module _ {P X : Type 0} (C : X → Type 0) (left : ℕ) (h : P ↔ (All C [] × (left ≡ 0))) where
  -- nothing is left
  pub none_more : left ≡ 0 → IsTrue true ↔ P
  none_more none = (λ _. h.1 (All-nil C, none), λ _. refl)

  -- something is left
  pub some_more : 0 < left → IsTrue false ↔ P
  some_more some = (λ no. absurd (cc no), λ p. absurd (omega (arith, (h.0 p).1, some)))

-- ---- rows in any order

-- Texts at different paths that each are among as many rows are these.
pub permuted_if : (rows : Numbered TextRow) (all : List PathText) → AllPairs PathsDiffer all → IsPermutation (texts_in rows) all ↔ (All (Contains (texts_in rows)) all × (length rows ≡ length all))
permuted_if rows all apart =
    let long : length (texts_in rows) ≡ length rows = length-map (rows_of rows) text_in ∙ length-map rows (λ (x : ℕ × TextRow). x.1) in (
      λ same. (
        all_from (Contains (texts_in rows)) all (λ x at. Contains-permutation all (texts_in rows) x (IsPermutation-sym _ _ same) at),
        omega (arith, length_permutation _ _ same, long),
      ),
      λ both. IsPermutation-sym _ _
          (contained_permutes all (texts_in rows)
          (ascending_weaker PathsDiffer (λ d e. d ≢ e) (λ d e differ same. differ (ap (λ (x : PathText). x.0) same)) all (ascending_from_pairs PathsDiffer all apart))
          (recursion_from_All (Contains (texts_in rows)) all both.0) (omega (arith, both.1, long))),
    )

-- ---- the texts of the suites from a position on

texts_of_next : (shelves : ShelvesValue) (from : ℕ) (suites : List Suite) (dates : List ℕ) (i : ℕ) (d : ℕ) → i < length suites → i < length dates
    → texts_from shelves from (drop i (zip suites dates)) ≡ option_map_or (λ s. suite_texts shelves from s (get_or dates i d)) (slice_get suites i) [] ++ texts_from shelves (from + 1) (drop (suc i) (zip suites dates))
unfolding texts_from
texts_of_next shelves from [] dates i d a b = absurd (omega arith)
texts_of_next shelves from (s ∷ ss) [] i d a b = absurd (omega arith)
texts_of_next shelves from (s ∷ ss) (e ∷ es) zero d a b = refl
texts_of_next shelves from (s ∷ ss) (e ∷ es) (suc i) d a b = texts_of_next shelves from ss es i d (omega arith) (omega arith)

-- the texts of one suite, and then those of the others
pub texts_next : (config : ConfigValue) (shelves : ShelvesValue) (dates : List ℕ) (i d : ℕ) → i < length config.suites → i < length dates
    → texts_from shelves i (drop i (zip config.suites dates)) ≡ suite_texts_at config shelves i (get_or dates i d) ++ texts_from shelves (i + 1) (drop (i + 1) (zip config.suites dates))
texts_next config shelves dates i d a b =
    let at : suc i ≡ i + 1 = omega arith in
    texts_of_next shelves i config.suites dates i d a b
    ∙ ap (λ n. suite_texts_at config shelves i (get_or dates i d) ++ texts_from shelves (i + 1) (drop n (zip config.suites dates))) at

-- ---- the texts of a suite

-- Release, and then the others
pub suite_texts_are : (config : ConfigValue) (shelves : ShelvesValue) (position date : ℕ) (s : Suite) → slice_get config.suites position ≡ Some s
    → suite_texts_at config shelves position date
    ≡ from_root s (codes "Release", release_at config position date (map index_of (listed_texts s shelves position))) ∷ map (from_root s) (listed_texts s shelves position)
unfolding suite_texts folder_texts indices_of release_at
suite_texts_are config shelves position date s here =
    ap (λ o. option_map_or (λ s. suite_texts shelves position s date) o []) here
    ∙ ap (λ o. from_root s (codes "Release", option_map_or (λ u. release_text u date (map index_of (listed_texts s shelves position))) o []) ∷ map (from_root s) (listed_texts s shelves position)) (sym here)

-- ---- no suite is left

pub none_left : (shelves : ShelvesValue) (i : ℕ) (pairs : List (Suite × ℕ)) → length pairs ≤ i → texts_from shelves i (drop i pairs) ≡ []
unfolding texts_from
none_left shelves i pairs past = ap (texts_from shelves i) (drop_all i pairs past)

-- the texts of a suite, its Release and the others as they were made
pub suite_texts_made : (config : ConfigValue) (shelves : ShelvesValue) (position date : ℕ) (s : Suite) (release : PathText) (made : List PathText) → slice_get config.suites position ≡ Some s
    → made ≡ listed_texts s shelves position → release ≡ (codes "Release", release_at config position date (map index_of made))
    → suite_texts_at config shelves position date ≡ from_root s release ∷ map (from_root s) made
suite_texts_made config shelves position date s release made here are first =
    suite_texts_are config shelves position date s here
    ∙ ap (λ xs. from_root s (codes "Release", release_at config position date (map index_of xs)) ∷ map (from_root s) xs) (sym are)
    ∙ ap (λ r. from_root s r ∷ map (from_root s) made) (sym first)

-- what a clause says of the value there
pub some_case : {X : Type 0} (o : Option X) (P : X → Type 0) (x : X) → IfSome o P → o ≡ Some x → P x
some_case o P x h e = subst (λ u. IfSome u P) e h

-- ---- prints

-- what Release lists of texts that are among these are prints of these
prints_listed : (texts : List PathText) (s : Suite) (es : List PathText) → All (Contains texts) (map (from_root s) es) → ArePrintsOf texts (map (print_from_root s) (map index_of es))
prints_listed texts s [] all = All-nil (IsPrintAmong texts)
prints_listed texts s (e ∷ es) all =
    let parts = recursion_from_All (Contains texts) (from_root s e ∷ map (from_root s) es) all in
    All-cons (IsPrintAmong texts) (print_from_root s (index_of e)) (map (print_from_root s) (map index_of es))
    (record { text = e.1; among = parts.0; print = refl }) (prints_listed texts s es (All-from_recursion (Contains texts) (map (from_root s) es) parts.1))

-- with the prints of one more suite all are prints of these texts
pub prints_more : (texts : List PathText) (s : Suite) (es : List PathText) (indices : List Index) (old new : List TextPrint) → All (Contains texts) (map (from_root s) es) → indices ≡ map index_of es
    → new ≡ old ++ map (print_from_root s) indices → ArePrintsOf texts old → ArePrintsOf texts new
prints_more texts s es indices old new all are more known =
    subst (ArePrintsOf texts) (sym (more ∙ ap (λ xs. old ++ map (print_from_root s) xs) are))
    (All-append (IsPrintAmong texts) old (map (print_from_root s) (map index_of es)) known (prints_listed texts s es all))

-- at first there are no prints
pub no_prints : (texts : List PathText) (prints : List TextPrint) → prints ≡ [] → ArePrintsOf texts prints
no_prints texts prints none = subst (ArePrintsOf texts) (sym none) (All-nil (IsPrintAmong texts))
