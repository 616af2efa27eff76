-- The rows of items under another configuration: each is that of the shelf of the suite of its codename.
use Rattle.std.proofs.Common.{◌≡◌, ◌≢◌, ◌<◌, ℕ, Bool, true, false, cond, List, [], ◌∷◌, find, length, slice_get, Option, Some, None, option_map, IsTrue, refl, sym, ap, subst, ◌∙◌}
use Rattle.std.specs.Prelude.{AllPairs, Contains}
use Rattle.std.proofs.Math.Logic.{∥∥₁_elim, ∥∥₁_map}
use Rattle.std.specs.Option.{option_and_then, option_map_or}
use Rattle.std.specs.FinMap.{get}
use Rattle.std.proofs.lemmas.Option.{slice_get_within}
use Rattle.rules.specs.declared.suite.Suite.{Suite}
use Rattle.sums.proofs.Members.{all_at, all_from, any_true, here, there}
use Rattle.suites.specs.Keys.{kind_number}
use Rattle.suites.specs.Moved.{all_stay, moved, place_in}
use Rattle.suites.specs.Shelves.{ShelvesValue}
use Rattle.suites.specs.declared.item.Item as shelf
use Rattle.suites.specs.declared.key.ShelfKey.{ShelfKey}
use Rattle.suites.proofs.FileMembers.{entry_shown, shown_entry}
use Rattle.suites.proofs.MovedLemmas.{is_shown, same_place, was_shown, stays, key_of, suite_there}
use Rattle.suites.specs.Codenames.{codename_at}
use Rattle.tables.specs.Items.{is_item}
use Rattle.tables.specs.Rows.{Tables}
use Rattle.tables.specs.declared.rows.ItemRow.{ItemRow}
use Rattle.tables_meaning.specs.Kept.{AreItems, is_on, refs_for, shown_in, shown_row}
use Rattle.rules.specs.Suites.{suite_named}
use Rattle.tables_meaning.proofs.Searches.{some_found}
use Rattle.tables_meaning.proofs.ShownLemmas.{item_parts, named_suite, suite_back}

name_at : (suites : List Suite) (n : ℕ) (s : Suite) → slice_get suites n ≡ Some s → codename_at suites n ≡ s.codename
name_at suites n s e = ap (λ o. option_map_or (λ (x : Suite). x.codename) o []) e

module _ (old new : List Suite) where
  -- the place to which a place goes
  placed : (m k : ℕ) → place_in old new m ≡ Some k → (m < length old) × (k < length new) × (codename_at new k ≡ codename_at old m)
  placed m k e = by_case (slice_get old m) refl e
    where
      by_case : (o : Option Suite) → slice_get old m ≡ o → option_and_then (λ s. suite_named new s.codename) o ≡ Some k → (m < length old) × (k < length new) × (codename_at new k ≡ codename_at old m)
      by_case None is f = cc
      by_case (Some s) is f =
          let there = named_suite new s.codename k f in
          (slice_get_within old m s is, there.0, sym there.1 ∙ sym (name_at old m s is))

module _ (t : Tables) (old new : List Suite) (apart : AllPairs (λ s r. s.codename ≢ r.codename) old) (other : AllPairs (λ s r. s.codename ≢ r.codename) new)
    (shown : ShelvesValue) (are : AreItems t old shown) (stay : all_stay old new shown ≡ true) where
  abbrev now : ShelvesValue
  now = moved old new shown

  -- the shelf of the suite at a place
  abbrev at_place : ShelfKey → ℕ → ShelfKey
  at_place key m = record key { suite = m }

  -- the old suite of a codename goes to the place of that codename
  back_there : (n m : ℕ) → n < length new → suite_named old (codename_at new n) ≡ Some m → place_in old new m ≡ Some n
  back_there n m lt e =
      let at = named_suite old (codename_at new n) m e in
      let s = suite_there old m at.0 in
      let name : s.0.codename ≡ codename_at new n = sym (name_at old m s.0 s.1) ∙ sym at.1 in
      ap (option_and_then (λ (x : Suite). suite_named new x.codename)) s.1 ∙ ap (suite_named new) name ∙ suite_back new other n lt

  -- a shelf shows what the shelf of the old suite showed
  same_shelf : (key : ShelfKey) (m : ℕ) → key.suite < length new → suite_named old (codename_at new key.suite) ≡ Some m → get now key ≡ get shown (at_place key m)
  same_shelf key m lt e = by_case (get shown (at_place key m)) refl (get now key) refl
    where
      by_case : (o : Option shelf.Item) → get shown (at_place key m) ≡ o → (p : Option shelf.Item) → get now key ≡ p → p ≡ o
      by_case (Some x) was p is =
          sym is ∙ is_shown old new apart shown (at_place key m, x) (key, x) (entry_shown shown (at_place key m) x was)
          (ap (option_map (λ n. (record (at_place key m) { suite = n }, x))) (back_there key.suite m lt e))
      by_case None was None is = refl
      by_case None was (Some x) is =
          let from = was_shown old new apart shown key x is in
          let go = key_of old new apart shown from.0 (key, x) from.2 in
          let place : from.0.0.suite ≡ m = same_place old apart new from.0.0.suite m key.suite go.0 (back_there key.suite m lt e) in
          let key_is : key ≡ record from.0.0 { suite = key.suite } = ap (λ (z : ShelfKey × shelf.Item). z.0) go.1 in
          let whole : at_place key from.0.0.suite ≡ from.0.0 = ap (λ (z : ShelfKey). record z { suite = from.0.0.suite }) key_is in
          let shelf_is : from.0.0 ≡ at_place key m = sym whole ∙ ap (at_place key) place in
          let both : None ≡ Some from.0.1 = sym was ∙ sym (ap (get shown) shelf_is) ∙ shown_entry shown from.0 from.1 in
          absurd cc

  -- a shelf of a suite that is new shows nothing
  no_shelf : (key : ShelfKey) → suite_named old (codename_at new key.suite) ≡ None → get now key ≡ None
  no_shelf key e = by_case (get now key) refl
    where
      by_case : (p : Option shelf.Item) → get now key ≡ p → p ≡ None
      by_case None is = refl
      by_case (Some x) is =
          let from = was_shown old new apart shown key x is in
          let go = key_of old new apart shown from.0 (key, x) from.2 in
          let there = placed old new from.0.0.suite key.suite go.0 in
          let both : None ≡ Some from.0.0.suite = sym e ∙ ap (suite_named old) there.2 ∙ suite_back old apart from.0.0.suite there.0 in
          absurd cc

  -- ---- rows

  -- a row on a shelf of the new suites is of an old one
  on_old : (key : ShelfKey) (x : ℕ × ItemRow) → Contains t.items x → is_on new key x ≡ true → suite_named old (codename_at new key.suite) ≡ None → ⊥
  on_old key x at on none =
      ∥∥₁_elim (all_at (λ (y : ℕ × ItemRow). ∥ ((k : ShelfKey) × (k.suite < length old) × IsTrue (is_on old k y)) ∥₁) t.items x are.rows at) (λ p q. absurd p) (λ w.
      let here = item_parts (codename_at new key.suite) (kind_number key.kind) key.«package» key.architecture x.1 on in
      let there = item_parts (codename_at old w.0.suite) (kind_number w.0.kind) w.0.«package» w.0.architecture x.1 w.2 in
      let both : None ≡ Some w.0.suite = sym none ∙ ap (suite_named old) (sym here.at_suite ∙ there.at_suite) ∙ suite_back old apart w.0.suite w.1 in
      absurd cc)

  -- no row stands on a shelf of a suite that is new
  none_on : (key : ShelfKey) → suite_named old (codename_at new key.suite) ≡ None → find (is_on new key) t.items ≡ None
  none_on key none = search t.items (λ x at. at)
    where
      search : (xs : List (ℕ × ItemRow)) → ((x : ℕ × ItemRow) → Contains xs x → Contains t.items x) → find (is_on new key) xs ≡ None
      search [] h = refl
      search (x ∷ xs) h = by_case (is_on new key x) refl (search xs (λ y k. h y (there x y xs k)))
        where
          by_case : (b : Bool) → is_on new key x ≡ b → find (is_on new key) xs ≡ None → cond b (Some x) (find (is_on new key) xs) ≡ None
          by_case true on more = absurd (on_old key x (h x (here x xs)) on none)
          by_case false off more = more

  -- what the rows of a shelf are, by the codename of its suite
  abbrev Are : ShelfKey → List ℕ → Option shelf.Item → Type 0
  Are key name item = option_map (shown_in t) (find (λ x. is_item name (kind_number key.kind) key.«package» key.architecture x.1) t.items)
      ≡ option_and_then (λ (x : ℕ × ItemRow). option_map (λ (i : shelf.Item). (
        record {
          suite = name;
          kind = kind_number key.kind;
          «package» = key.«package»;
          architecture = key.architecture;
          version = i.version;
          component = i.component;
          source = i.source;
          paragraph = i.paragraph;
        },
        refs_for x.0 i,
      )) item) (find (λ x. is_item name (kind_number key.kind) key.«package» key.architecture x.1) t.items)

  abbrev All_there : ShelfKey → List ℕ → Option shelf.Item → Type 0
  All_there key name item = option_map (λ _. true) (find (λ x. is_item name (kind_number key.kind) key.«package» key.architecture x.1) t.items) ≡ option_map (λ _. true) item

  -- a statement on a shelf of the old suite is one on that of the new
  on_new : (P : List ℕ → Option shelf.Item → Type 0) (key : ShelfKey) (m : ℕ) → key.suite < length new → suite_named old (codename_at new key.suite) ≡ Some m
      → P (codename_at old m) (get shown (at_place key m)) → P (codename_at new key.suite) (get now key)
  on_new P key m lt e h =
      let name : codename_at new key.suite ≡ codename_at old m = (named_suite old (codename_at new key.suite) m e).1 in
      subst (λ (z : List ℕ × Option shelf.Item). P z.0 z.1) (λ i. (sym name i, sym (same_shelf key m lt e) i)) h

  -- a row's shelf shows an item, which is kept
  some_item : (o : Option shelf.Item) → Some true ≡ option_map (λ _. true) o → (item : shelf.Item) × (o ≡ Some item)
  some_item None e = cc
  some_item (Some item) e = (item, refl)

  found_one : (p : ℕ × ItemRow → Bool) (xs : List (ℕ × ItemRow)) (x : ℕ × ItemRow) → Contains xs x → IsTrue (p x) → (y : ℕ × ItemRow) × (find p xs ≡ Some y)
  found_one p xs x at on = some_found p xs (any_true p xs x at on)

  standing_item : (x : ℕ × ItemRow) → Contains t.items x → (key : ShelfKey) → key.suite < length old → IsTrue (is_on old key x) → (item : shelf.Item) × (get shown key ≡ Some item)
  standing_item x at key lt on =
      let found = found_one (is_on old key) t.items x at on in
      let shows : Some true ≡ option_map (λ _. true) (get shown key) = sym (ap (option_map (λ _. true)) found.1) ∙ are.all key lt in
      some_item (get shown key) shows

  new_key : (x : ℕ × ItemRow) → Contains t.items x → (key : ShelfKey) → key.suite < length old → IsTrue (is_on old key x) → (k : ShelfKey) × (k.suite < length new) × IsTrue (is_on new k x)
  new_key x at key lt on =
      let item = standing_item x at key lt on in
      let d = stays old new apart shown stay (key, item.0) (entry_shown shown key item.0 item.1) in
      let there = placed old new key.suite d.0.0.suite (key_of old new apart shown (key, item.0) d.0 d.1).0 in
      let moves : d.0.0 ≡ record key { suite = d.0.0.suite } = ap (λ (z : ShelfKey × shelf.Item). z.0) (key_of old new apart shown (key, item.0) d.0 d.1).1 in (
        record key { suite = d.0.0.suite },
        there.1,
        subst (λ (name : List ℕ). IsTrue (is_item name (kind_number key.kind) key.«package» key.architecture x.1)) (sym there.2) on,
      )

  pub items_moved : AreItems t new now
  items_moved = record {
    are = λ key lt. elim (suite_named old (codename_at new key.suite)) as (λ o. suite_named old (codename_at new key.suite) ≡ o → option_map (shown_in t) (find (is_on new key) t.items)
        ≡ option_and_then (λ x. option_map (shown_row new key x.0) (get now key)) (find (is_on new key) t.items)) [
          | None ↦ λ none. (let nowhere = none_on key none in rw nowhere refl)
          | Some m ↦ λ is. on_new (Are key) key m lt is (are.are (at_place key m) (named_suite old (codename_at new key.suite) m is).0)
        ] refl;
    all = λ key lt. elim (suite_named old (codename_at new key.suite)) as (λ o. suite_named old (codename_at new key.suite) ≡ o → option_map (λ _. true) (find (is_on new key) t.items) ≡ option_map (λ _. true) (get now key)) [
      | None ↦ λ none. (let nowhere = none_on key none in let nothing = no_shelf key none in rw (nowhere, nothing) refl)
      | Some m ↦ λ is. on_new (All_there key) key m lt is (are.all (at_place key m) (named_suite old (codename_at new key.suite) m is).0)
    ] refl;
    within = λ key item h. (let from = was_shown old new apart shown key item h in (placed old new from.0.0.suite key.suite (key_of old new apart shown from.0 (key, item) from.2).0).1);
    rows = all_from (λ (x : ℕ × ItemRow). ∥ ((k : ShelfKey) × (k.suite < length new) × IsTrue (is_on new k x)) ∥₁) t.items
        (λ x at. ∥∥₁_map (all_at (λ (y : ℕ × ItemRow). ∥ ((k : ShelfKey) × (k.suite < length old) × IsTrue (is_on old k y)) ∥₁) t.items x are.rows at) (λ w. new_key x at w.0 w.1 w.2));
    apart = are.apart;
    owned = are.owned;
  }
