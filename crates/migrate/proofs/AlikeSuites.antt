-- Suites that differ in days alone: all that is shown stays, and on its shelf.
use Rattle.std.proofs.Common.{◌≡◌, ◌≢◌, ℕ, ◌+◌, Bool, true, false, not, ◌&&◌, cond, nat_lt, Ok, List, [], ◌∷◌, map, filter_map, Option, Some, None, option_map, length, slice_get, bytes_eq, refl, sym, ap, ◌∙◌}
use Rattle.std.specs.Prelude.{AllPairs}
use Rattle.std.specs.List.{AllByRecursion, cons_option, position_or_len}
use Rattle.std.specs.Option.{option_and_then, option_map_or}
use Rattle.std.specs.FinMap.{entries, from_entries}
use Rattle.std.proofs.lemmas.List.{length-map}
use Rattle.std.proofs.lemmas.List.Elements.{All-weaker, recursion_from_All}
use Rattle.std.proofs.lemmas.Option.{slice_get-map, slice_get_within}
use Rattle.sqlite_keyed.proofs.ListLemmas.{test_from_all}
use Rattle.rules.specs.Configuration.{config_in}
use Rattle.rules.specs.Suites.{keeps_architecture, keeps_component, suite_named}
use Rattle.rules.specs.Values.{ConfigValue}
use Rattle.rules.specs.declared.suite.Suite.{Suite}
use Rattle.suites.specs.Moved.{all_stay, moved, moved_entry, place_in, stays_kept}
use Rattle.suites.specs.Shelves.{ShelvesValue}
use Rattle.suites.specs.Told.{AreTold, is_kept_by}
use Rattle.suites.specs.declared.item.Item.{Item}
use Rattle.suites.specs.declared.key.ShelfKey.{ShelfKey}
use Rattle.suites.specs.Codenames.{codename_at}
use Rattle.suites.proofs.Unchanged.{entries_again}
use Rattle.book.specs.Configured.{AreAlike, without_days}
use Rattle.indices.proofs.Paths.{config_codenames}
use Rattle.tables_meaning.proofs.ShownLemmas.{suite_back}

-- ---- what is read of suites without their days

first_timeless : (name : List ℕ) (suites : List Suite) → position_or_len (λ s. bytes_eq s.codename name) (map without_days suites) ≡ position_or_len (λ s. bytes_eq s.codename name) suites
first_timeless name [] = refl
first_timeless name (s ∷ suites) = ap (λ n. cond (not (bytes_eq s.codename name)) (1 + n) 0) (first_timeless name suites)

place_timeless : (suites : List Suite) (name : List ℕ) → suite_named (map without_days suites) name ≡ suite_named suites name
unfolding suite_named
place_timeless suites name =
    let count = length-map suites without_days in
    let first = first_timeless name suites in
    λ i. cond (nat_lt (first i) (count i)) (Some (first i)) None

kept_timeless : (suites : List Suite) (e : ShelfKey × Item) → is_kept_by (map without_days suites) e ≡ is_kept_by suites e
unfolding is_kept_by keeps_component keeps_architecture
kept_timeless suites e = ap (λ o. option_map_or keeps o false) (slice_get-map without_days suites e.0.suite) ∙ by_case (slice_get suites e.0.suite)
  where
    keeps : Suite → Bool
    keeps s = keeps_component s e.1.component && keeps_architecture s e.1.architecture

    by_case : (o : Option Suite) → option_map_or keeps (option_map without_days o) false ≡ option_map_or keeps o false
    by_case None = refl
    by_case (Some s) = refl

-- ---- a suite by its own codename

module _ (suites : List Suite) (apart : AllPairs (λ s r. s.codename ≢ r.codename) suites) where
  own_place : (n : ℕ) (s : Suite) → slice_get suites n ≡ Some s → suite_named suites s.codename ≡ Some n
  own_place n s e =
      let name : codename_at suites n ≡ s.codename = ap (λ o. option_map_or (λ (x : Suite). x.codename) o []) e in
      sym (ap (suite_named suites) name) ∙ suite_back suites apart n (slice_get_within suites n s e)

  -- an item that its suite keeps stands at the place of that suite's codename
  kept_place : (e : ShelfKey × Item) → is_kept_by suites e ≡ true → place_in suites suites e.0.suite ≡ Some e.0.suite
  unfolding is_kept_by
  kept_place e kept = by_case (slice_get suites e.0.suite) refl kept
    where
      by_case : (o : Option Suite) → slice_get suites e.0.suite ≡ o
          → option_map_or (λ s. keeps_component s e.1.component && keeps_architecture s e.1.architecture) o false ≡ true
          → option_and_then (λ s. suite_named suites s.codename) o ≡ Some e.0.suite
      by_case None is h = cc
      by_case (Some s) is h = own_place e.0.suite s is

-- ---- lists and maps

all_filled : {X : Type 0} (f : X → Option X) (xs : List X) → AllByRecursion (λ x. f x ≡ Some x) xs → filter_map f xs ≡ xs
all_filled f [] h = refl
all_filled f (x ∷ xs) h = ap (λ o. cons_option o (filter_map f xs)) h.0 ∙ ap (λ ys. x ∷ ys) (all_filled f xs h.1)

-- ---- alike configurations

-- The two configurations have the same number of suites.
pub alike_length : (config other : ConfigValue) → AreAlike config other → length config.suites ≡ length other.suites
alike_length config other alike = sym (length-map config.suites without_days) ∙ ap length alike ∙ length-map other.suites without_days

module _ (config other : ConfigValue) (shown : ShelvesValue) (read : config_in config.text ≡ Ok config) (told : AreTold config.suites shown) (alike : AreAlike config other) where
  same_places : (name : List ℕ) → suite_named other.suites name ≡ suite_named config.suites name
  same_places name =
      sym (place_timeless other.suites name) ∙ sym (ap (λ (suites : List Suite). suite_named suites name) alike) ∙ place_timeless config.suites name

  kept_alike : (e : ShelfKey × Item) → is_kept_by config.suites e ≡ true → is_kept_by other.suites e ≡ true
  kept_alike e kept =
      sym (kept_timeless other.suites e) ∙ sym (ap (λ (suites : List Suite). is_kept_by suites e) alike) ∙ kept_timeless config.suites e ∙ kept

  -- an entry that its suite keeps does not move
  entry_alike : (e : ShelfKey × Item) → is_kept_by config.suites e ≡ true → moved_entry config.suites other.suites e ≡ Some e
  entry_alike e kept =
      ap (option_map (λ n. (record e.0 { suite = n }, e.1)))
      ((λ i. option_and_then (λ (s : Suite). same_places s.codename i) (slice_get config.suites e.0.suite))
      ∙ kept_place config.suites (config_codenames config read) e kept)

  -- All that is shown is kept.
  pub alike_stays : all_stay config.suites other.suites shown ≡ true
  unfolding all_stay stays_kept
  alike_stays =
      let stays : ShelfKey × Item → Bool = λ e. option_map_or (is_kept_by other.suites) (moved_entry config.suites other.suites e) false in
      test_from_all stays (entries shown)
      (recursion_from_All (λ e. stays e ≡ true) (entries shown)
      (All-weaker (λ e. is_kept_by config.suites e ≡ true) (λ e. stays e ≡ true)
      (λ e kept. ap (λ o. option_map_or (is_kept_by other.suites) o false) (entry_alike e kept) ∙ kept_alike e kept) (entries shown) told.kept))

  -- All that is shown stays on its shelf.
  pub alike_moved : moved config.suites other.suites shown ≡ shown
  unfolding moved
  alike_moved =
      let move = moved_entry config.suites other.suites in
      ap from_entries
      (all_filled move (entries shown)
      (recursion_from_All (λ e. move e ≡ Some e) (entries shown)
      (All-weaker (λ e. is_kept_by config.suites e ≡ true) (λ e. move e ≡ Some e) (λ e kept. entry_alike e kept) (entries shown) told.kept)))
      ∙ entries_again shown
