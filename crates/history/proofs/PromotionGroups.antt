-- The shelves of a suite in groups. A copy to another suite changes none of them.
use Rattle.std.proofs.Common.{◌≡◌, ◌≢◌, ◌==◌, ℕ, Bool, true, false, cond, not, ◌&&◌, ◌||◌, List, [], ◌∷◌, ◌++◌, map, filter, length, Option, Some, None, option_and_then, option_to_list, slice_get, nat_eq, bytes_eq, refl, sym, ap, ◌∙◌, append-nil, arith, true≢false}
use Rattle.std.specs.Prelude.{Contains, T}
use Rattle.std.specs.FinMap.{entries, entries_sorted, find, get, get-entries, is_sorted}
use Rattle.std.specs.FinMap.Entries.{same_entries}
use Rattle.std.specs.List.{list_any}
use Rattle.std.proofs.lemmas.Bool.Decides.{Decides-eqb, nat_tests}
use Rattle.std.proofs.lemmas.List.{map-append}
use Rattle.std.proofs.lemmas.List.Elements.{filter-append}
use Rattle.rules.specs.Values.{ConfigValue}
use Rattle.rules.specs.declared.suite.Suite.{Suite}
use Rattle.sums.proofs.Members.{from_map}
use Rattle.suites.proofs.ListMembers.{from_flat_map}
use Rattle.suites.specs.Items.{standing}
use Rattle.suites.specs.KeyLemmas.{key_order_total, key_order-IsAntisymmetric}
use Rattle.suites.specs.Keys.{key_order}
use Rattle.suites.specs.Plan.{after_copy, copied, is_copied, is_of_source, shelves_of}
use Rattle.suites.specs.Shelves.{ShelvesValue, shown, version_of}
use Rattle.suites.proofs.Unchanged.{shown_again}
use Rattle.suites.specs.declared.item.Item.{Item}
use Rattle.suites.specs.declared.key.ShelfKey.{ShelfKey}
use Rattle.suites.proofs.PassingEntries.{find-filter}
use Rattle.suites.proofs.EntryLemmas.{sorted-filter}
use Rattle.history.specs.Copies.{shows_source}
use Rattle.history.proofs.DatesCounts.{shown_elsewhere}

-- ---- groups

-- the shelves of these items that are of the suite and the source package
abbrev pub keys_among : ℕ → List ℕ → List (ShelfKey × Item) → List ShelfKey
keys_among suite source es = map (λ (a : ShelfKey × Item). a.0) (filter (is_of_source suite source) es)

-- one more item adds its shelf
pub key-push : (suite : ℕ) (source : List ℕ) (done : List (ShelfKey × Item)) (e : ShelfKey × Item)
    → cond (nat_eq e.0.suite suite) (keys_among suite source done ++ cond (bytes_eq e.1.source source) (e.0 ∷ []) []) (keys_among suite source done) ≡ keys_among suite source (done ++ e ∷ [])
unfolding is_of_source
key-push suite source done e =
    last (nat_eq e.0.suite suite) (bytes_eq e.1.source source)
    ∙ sym (ap (map key) (filter-append (is_of_source suite source) done (e ∷ [])) ∙ map-append key (filter (is_of_source suite source) done) (filter (is_of_source suite source) (e ∷ [])))
  where
    key : ShelfKey × Item → ShelfKey
    key a = a.0

    last : (s n : Bool) → cond s (keys_among suite source done ++ cond n (e.0 ∷ []) []) (keys_among suite source done) ≡ keys_among suite source done ++ map key (cond (s && n) (e ∷ []) [])
    last true true = refl
    last true false = refl
    last false n = sym (append-nil (keys_among suite source done))

-- ---- what is shown

-- there is a shelf if the suite shows an item of the source package
pub shown_by_shelves : (m : ShelvesValue) (from : ℕ) (source : List ℕ) → not (length (shelves_of m from source) == 0) ≡ shows_source m from source
unfolding shelves_of is_of_source shows_source
shown_by_shelves m from source = some_of (λ (e : ShelfKey × Item). nat_eq e.0.suite from && bytes_eq e.1.source source) (entries m)
  where
    some_first : (e : ShelfKey × Item) (xs : List (ShelfKey × Item)) (others b : Bool) → not (length (map (λ (a : ShelfKey × Item). a.0) xs) == 0) ≡ others
        → not (length (map (λ (a : ShelfKey × Item). a.0) (cond b (e ∷ xs) xs)) == 0) ≡ (b || others)
    some_first e xs others true rest =
        let no : (length (e.0 ∷ map (λ (a : ShelfKey × Item). a.0) xs) == 0) ≡ false = grind (arith, nat_tests) in ap not no
    some_first e xs others false rest = rest

    some_of : (p : ShelfKey × Item → Bool) (es : List (ShelfKey × Item)) → not (length (map (λ (a : ShelfKey × Item). a.0) (filter p es)) == 0) ≡ list_any p es
    some_of p [] = refl
    some_of p (e ∷ es) = some_first e (filter p es) (list_any p es) (p e) (some_of p es)

-- ---- a copy to another suite

-- what is copied stands in the target
copied_suite : (config : ConfigValue) (m : ShelvesValue) (from to : ℕ) (source : List ℕ) (e : ShelfKey × Item) → Contains (copied config m from to source) e → e.0.suite ≡ to
unfolding copied
copied_suite config m from to source e at =
    let t = from_flat_map (λ (target : Suite). map (λ (a : ShelfKey × Item). standing to a.1) (filter (is_copied from source target) (entries m))) e (option_to_list (slice_get config.suites to)) at in
    let x = from_map (λ (a : ShelfKey × Item). standing to a.1) e (filter (is_copied from source t.0) (entries m)) t.2 in
    ap (λ (y : ShelfKey × Item). y.0.suite) (sym x.2)

-- so the shelves of other suites stay as they are
elsewhere : (config : ConfigValue) (m : ShelvesValue) (from to : ℕ) (source : List ℕ) (k : ShelfKey) → k.suite ≢ to → get (after_copy config m from to source) k ≡ get m k
elsewhere config m from to source k other =
    shown_elsewhere version_of to (entries m) (copied config m from to source) (copied_suite config m from to source) k other
    ∙ ap (λ (s : ShelvesValue). get s k) (ap (shown version_of) (sym (append-nil (entries m))) ∙ shown_again m)

module _ (config : ConfigValue) (m : ShelvesValue) (from to : ℕ) (source name : List ℕ) (other : nat_eq from to ≡ false) where
  abbrev after : ShelvesValue
  after = after_copy config m from to source

  abbrev of_name : ShelfKey × Item → Bool
  of_name e = is_of_source from name e

  abbrev passing : ShelfKey → Option Item → Option Item
  passing k o = option_and_then (λ x. cond (of_name (k, x)) (Some x) None) o

  -- an item of another suite does not pass
  none_pass : (k : ShelfKey) (o : Option Item) → nat_eq k.suite from ≡ false → passing k o ≡ None
  unfolding is_of_source
  none_pass k None apart = refl
  none_pass k (Some x) apart = ap (λ b. cond (b && bytes_eq x.source name) (Some x) None) apart

  in_from : (k : ShelfKey) → nat_eq k.suite from ≡ true → k.suite ≢ to
  in_from k at same = true≢false (sym ((Decides-eqb from to).1 (sym ((Decides-eqb k.suite from).0 at) ∙ same)) ∙ other)

  same_there : (k : ShelfKey) (b : Bool) → nat_eq k.suite from ≡ b → passing k (get after k) ≡ passing k (get m k)
  same_there k true at = ap (passing k) (elsewhere config m from to source k (in_from k at))
  same_there k false apart = none_pass k (get after k) apart ∙ sym (none_pass k (get m k) apart)

  sorted_of : (s : ShelvesValue) → T (is_sorted key_order (filter of_name (entries s)))
  sorted_of s = sorted-filter key_order of_name (entries s) (entries_sorted s)

  found_of : (s : ShelvesValue) (k : ShelfKey) → find key_order k (filter of_name (entries s)) ≡ passing k (get s k)
  found_of s k =
      find-filter key_order_total key_order-IsAntisymmetric of_name k (entries s) (entries_sorted s) ∙ ap (passing k) (sym (get-entries s k))

  -- A copy to another suite leaves the group of each source package.
  pub group_stays : shelves_of after from name ≡ shelves_of m from name
  unfolding shelves_of
  group_stays =
      ap (map (λ (a : ShelfKey × Item). a.0))
      (same_entries key_order key_order_total key_order-IsAntisymmetric (filter of_name (entries after)) (filter of_name (entries m)) (sorted_of after) (sorted_of m)
      (λ k. found_of after k ∙ same_there k (nat_eq k.suite from) refl ∙ sym (found_of m k)))
