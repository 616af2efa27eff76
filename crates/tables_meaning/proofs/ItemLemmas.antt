-- What the rows of items and of their files are once a shelf is emptied, and once an item stands on one.
use Rattle.std.proofs.Common.{◌≡◌, ◌≢◌, ℕ, ◌<◌, Bool, true, false, not, ◌&&◌, ◌||◌, cond, List, [], ◌∷◌, ◌++◌, filter, find, length, get_or, refl, sym, ap, subst, subst₂, ◌∙◌, append-nil, arith, inl, inr, ◌⊎◌, AllPairs, Option, Some, None, IsTrue, nat_eq, bytes_eq}
use Rattle.std.specs.List.{AllByRecursion, list_any, enumerate_from}
use Rattle.std.specs.Option.{option_map_or, option_or}
use Rattle.std.specs.Ordering.{eq_by_cmp}
use Rattle.std.specs.Cmp.{eq_by_cmp_equiv}
use Rattle.std.specs.FinMap.{get, insert, remove, get-insert, get-remove}
use Rattle.std.proofs.lemmas.Bool.{both_ways, and_parts, and_from, or_left, or_right, eq-eqb, eqb-true, false_from_ne_true, cases_order, not-true, ne_eqb, not_from_false}
use Rattle.std.proofs.lemmas.List.Elements.{filter-append}
use Rattle.std.proofs.lemmas.List.Folds.{find-append, list_any-append}
use Rattle.std.proofs.lemmas.Option.{slice_get-get_or}
use Rattle.sqlite_trees.specs.Tree.{IsAscending}
use Rattle.sqlite_keyed.specs.Lists.{delete_where, sort_by as sorted_by}
use Rattle.sqlite_keyed.proofs.ListLemmas.{all_weaker, all-filter, all-append, all-map, ascending-filter, ascending-append, filter-filter, filter_all, filter_none}
use Rattle.rules.specs.declared.suite.Suite.{Suite}
use Rattle.suites.specs.Keys.{key_order, kind_number}
use Rattle.suites.specs.KeyLemmas.{key_order_total, key_order-IsAntisymmetric, same_kind}
use Rattle.suites.specs.Shelves.{ShelvesValue}
use Rattle.suites.specs.declared.item.Item as shelf
use Rattle.suites.specs.declared.key.ShelfKey.{ShelfKey}
use Rattle.suites.proofs.EntryLemmas.{same_keys}
use Rattle.suites.specs.Codenames.{codename_at}
use Rattle.suites.proofs.ListTests.{option_or_none}
use Rattle.tables.specs.Items.{is_item}
use Rattle.tables.specs.Refs.{is_ref_of}
use Rattle.tables.specs.Rows.{Numbered, Rises, added, next_in}
use Rattle.tables.specs.declared.rows.ItemRow.{ItemRow}
use Rattle.tables.specs.declared.rows.Ref.{Ref}
use Rattle.tables.proofs.RowLemmas.{rises_added}
use Rattle.sums.proofs.Agree.{same_bytes, bytes_same}
use Rattle.book.proofs.Finds.{found_passes}
use Rattle.tables_meaning.specs.Kept.{item_row, ref_order, refs_among, refs_for, is_on, shown_row}
use Rattle.tables_meaning.proofs.NumberOrders.{refs_in_order}
use Rattle.tables_meaning.proofs.RowLists.{found_holds, none_passes, only_one, find_kept, find_gone, any_kept, all_filtered, number_is, below_last}

-- ---- rows and the keys of shelves

-- an item and the columns that name its shelf
record IsItem (suite : List ℕ) (kind : ℕ) (name architecture : List ℕ) (x : ItemRow) : Type 0 where
  at_suite : x.suite ≡ suite
  at_kind : x.kind ≡ kind
  at_name : x.«package» ≡ name
  at_architecture : x.architecture ≡ architecture

item_parts : (suite : List ℕ) (kind : ℕ) (name architecture : List ℕ) (x : ItemRow) → is_item suite kind name architecture x ≡ true → IsItem suite kind name architecture x
item_parts suite kind name architecture x h =
    let last = and_parts (bytes_eq x.suite suite && nat_eq x.kind kind && bytes_eq x.«package» name) (bytes_eq x.architecture architecture) h in
    let third = and_parts (bytes_eq x.suite suite && nat_eq x.kind kind) (bytes_eq x.«package» name) last.0 in
    let first = and_parts (bytes_eq x.suite suite) (nat_eq x.kind kind) third.0 in
    record {
      at_suite = same_bytes x.suite suite first.0;
      at_kind = eqb-true x.kind kind first.1;
      at_name = same_bytes x.«package» name third.1;
      at_architecture = same_bytes x.architecture architecture last.1;
    }

item_from : (suite : List ℕ) (kind : ℕ) (name architecture : List ℕ) (x : ItemRow) → IsItem suite kind name architecture x → is_item suite kind name architecture x ≡ true
item_from suite kind name architecture x h =
    and_from (bytes_eq x.suite suite && nat_eq x.kind kind && bytes_eq x.«package» name) (bytes_eq x.architecture architecture)
    (and_from (bytes_eq x.suite suite && nat_eq x.kind kind) (bytes_eq x.«package» name)
    (and_from (bytes_eq x.suite suite) (nat_eq x.kind kind) (bytes_same x.suite suite h.at_suite) (eq-eqb x.kind kind h.at_kind))
    (bytes_same x.«package» name h.at_name))
    (bytes_same x.architecture architecture h.at_architecture)

-- two items are for one shelf
abbrev pub same_shelf : ItemRow → ItemRow → Bool
same_shelf x y = is_item x.suite x.kind x.«package» x.architecture y

same_shelf_back : (x y : ItemRow) → same_shelf y x ≡ false → same_shelf x y ≡ false
same_shelf_back x y fails = false_from_ne_true (same_shelf x y) (λ holds.
    let parts = item_parts x.suite x.kind x.«package» x.architecture y holds in
    both_ways (same_shelf y x) fails (item_from y.suite y.kind y.«package» y.architecture x (record {
      at_suite = sym parts.at_suite;
      at_kind = sym parts.at_kind;
      at_name = sym parts.at_name;
      at_architecture = sym parts.at_architecture;
    })))

row_on : (suites : List Suite) (e : ShelfKey × shelf.Item) (id : ℕ) → is_on suites e.0 (id, item_row suites e) ≡ true
row_on suites e id = item_from (codename_at suites e.0.suite) (kind_number e.0.kind) e.0.«package» e.0.architecture (item_row suites e)
    (record { at_suite = refl; at_kind = refl; at_name = refl; at_architecture = refl })

-- a row on a shelf is for the shelf of any other row there
on_same : (suites : List Suite) (key : ShelfKey) (x y : ℕ × ItemRow) → same_shelf x.1 y.1 ≡ false → is_on suites key x ≡ true → is_on suites key y ≡ false
on_same suites key x y fails at = false_from_ne_true (is_on suites key y) (λ too.
    let first = item_parts (codename_at suites key.suite) (kind_number key.kind) key.«package» key.architecture x.1 at in
    let second = item_parts (codename_at suites key.suite) (kind_number key.kind) key.«package» key.architecture y.1 too in
    both_ways (same_shelf x.1 y.1) fails (item_from x.1.suite x.1.kind x.1.«package» x.1.architecture y.1 (record {
      at_suite = second.at_suite ∙ sym first.at_suite;
      at_kind = second.at_kind ∙ sym first.at_kind;
      at_name = second.at_name ∙ sym first.at_name;
      at_architecture = second.at_architecture ∙ sym first.at_architecture;
    })))

-- a row that is not on a shelf is for the shelf of no row there
apart_from : (suites : List Suite) (key : ShelfKey) (x y : ℕ × ItemRow) → is_on suites key x ≡ true → is_on suites key y ≡ false → same_shelf x.1 y.1 ≡ false
apart_from suites key x y at fails = false_from_ne_true (same_shelf x.1 y.1) (λ holds.
    let first = item_parts (codename_at suites key.suite) (kind_number key.kind) key.«package» key.architecture x.1 at in
    let second = item_parts x.1.suite x.1.kind x.1.«package» x.1.architecture y.1 holds in
    both_ways (is_on suites key y) fails (item_from (codename_at suites key.suite) (kind_number key.kind) key.«package» key.architecture y.1 (record {
      at_suite = second.at_suite ∙ first.at_suite;
      at_kind = second.at_kind ∙ first.at_kind;
      at_name = second.at_name ∙ first.at_name;
      at_architecture = second.at_architecture ∙ first.at_architecture;
    })))

-- an element of a list that is not empty
some_element : {X : Type 0} (xs : List X) (n : ℕ) → n < length xs → X
some_element [] n lt = absurd (omega arith)
some_element (x ∷ xs) n lt = x

module _ (suites : List Suite) (differ : AllPairs (λ s r. s.codename ≢ r.codename) suites) where
  codename_is : (n : ℕ) (d : Suite) → n < length suites → codename_at suites n ≡ (get_or suites n d).codename
  codename_is n d lt = ap (λ o. option_map_or (λ (s : Suite). s.codename) o []) (slice_get-get_or suites n d lt)

  same_suite : (m n : ℕ) → m < length suites → n < length suites → codename_at suites m ≡ codename_at suites n → m ≡ n
  same_suite m n p q e = go (cases_order m n)
    where
      d : Suite
      d = some_element suites m p

      alike : (get_or suites m d).codename ≡ (get_or suites n d).codename
      alike = sym (codename_is m d p) ∙ e ∙ codename_is n d q

      go : (m ≡ n) ⊎ ((m < n) ⊎ (n < m)) → m ≡ n
      go (inl same) = same
      go (inr (inl lt)) = absurd (differ m n d lt q alike)
      go (inr (inr lt)) = absurd (differ n m d lt p (sym alike))

  -- a row is on one shelf
  on_one : (k l : ShelfKey) (x : ℕ × ItemRow) → k.suite < length suites → l.suite < length suites → is_on suites k x ≡ true → is_on suites l x ≡ true → k ≡ l
  on_one k l x p q at too =
      let first = item_parts (codename_at suites k.suite) (kind_number k.kind) k.«package» k.architecture x.1 at in
      let second = item_parts (codename_at suites l.suite) (kind_number l.kind) l.«package» l.architecture x.1 too in
      same_key
      (same_suite k.suite l.suite p q (sym first.at_suite ∙ second.at_suite))
      (same_kind k.kind l.kind (sym first.at_kind ∙ second.at_kind))
      (sym first.at_name ∙ second.at_name)
      (sym first.at_architecture ∙ second.at_architecture)
    where
      same_key : k.suite ≡ l.suite → k.kind ≡ l.kind → k.«package» ≡ l.«package» → k.architecture ≡ l.architecture → k ≡ l
      same_key s t n a = λ i. record { suite = s i; kind = t i; «package» = n i; architecture = a i }

  -- a row on one shelf is not on another
  not_on : (k l : ShelfKey) (x : ℕ × ItemRow) → k.suite < length suites → l.suite < length suites → eq_by_cmp key_order k l ≡ false → is_on suites l x ≡ true → is_on suites k x ≡ false
  not_on k l x p q apart at = false_from_ne_true (is_on suites k x) (λ too.
      let same : l ≡ k = on_one l k x q p at too in
      both_ways (eq_by_cmp key_order k l) apart (subst (λ m. eq_by_cmp key_order k m ≡ true) (sym same) ((eq_by_cmp_equiv key_order_total).refl k)))

-- ---- what stands on a shelf

-- the row that is found for a shelf, and those of its files, are those of what stands there
abbrev pub Stands : List Ref → List Suite → ShelfKey → Option (ℕ × ItemRow) → Option shelf.Item → Type 0
Stands refs suites key None None = Unit {0}
Stands refs suites key None (Some item) = ⊥
Stands refs suites key (Some x) None = ⊥
Stands refs suites key (Some x) (Some item) = ◌≡◌ {A = ItemRow × List Ref} (x.1, refs_among refs x.0) (shown_row suites key x.0 item)

stands_at : (refs : List Ref) (suites : List Suite) (key : ShelfKey) (f g : Option (ℕ × ItemRow)) (a b : Option shelf.Item) → f ≡ g → a ≡ b → Stands refs suites key g b → Stands refs suites key f a
stands_at refs suites key f g a b p q h = subst₂ (Stands refs suites key) (sym p) (sym q) h

stands_refs : (old new : List Ref) (suites : List Suite) (key : ShelfKey) (f : Option (ℕ × ItemRow)) (a : Option shelf.Item)
    → ((x : ℕ × ItemRow) → f ≡ Some x → filter (is_ref_of x.0) new ≡ filter (is_ref_of x.0) old) → Stands old suites key f a → Stands new suites key f a
stands_refs old new suites key None None same h = tt
stands_refs old new suites key None (Some item) same h = absurd h
stands_refs old new suites key (Some x) None same h = absurd h
stands_refs old new suites key (Some x) (Some item) same h = ap (λ rs. (x.1, sorted_by ref_order rs)) (same x refl) ∙ h

stands_none : (refs : List Ref) (suites : List Suite) (key : ShelfKey) (f : Option (ℕ × ItemRow)) → Stands refs suites key f None → f ≡ None
stands_none refs suites key None h = refl
stands_none refs suites key (Some x) h = absurd h

none_stands : (refs : List Ref) (suites : List Suite) (key : ShelfKey) (a : Option shelf.Item) → Stands refs suites key None a → a ≡ None
none_stands refs suites key None h = refl
none_stands refs suites key (Some x) h = absurd h

-- the row is one of a shelf of these suites
abbrev pub OnSome : List Suite → ℕ × ItemRow → Type 0
OnSome suites x = ∥ ((key : ShelfKey) × (key.suite < length suites) × IsTrue (is_on suites key x)) ∥₁

-- The rows of items and the rows of their files are those of what is shown.
pub record Shelved (suites : List Suite) (items : Numbered ItemRow) (refs : List Ref) (shown : ShelvesValue) : Type 0 where
  pub stands : (key : ShelfKey) → key.suite < length suites → Stands refs suites key (find (is_on suites key) items) (get shown key)
  pub within : (key : ShelfKey) (item : shelf.Item) → get shown key ≡ Some item → key.suite < length suites
  pub rows : AllByRecursion (OnSome suites) items
  pub apart : IsAscending (λ x y. same_shelf x.1 y.1 ≡ false) items
  pub owned : AllByRecursion (λ r. list_any (λ x. nat_eq x.0 r.item) items ≡ true) refs
  pub rise : Rises items

-- ---- a shelf is emptied

refs_kept : (refs : List Ref) (k id : ℕ) → nat_eq k id ≡ false → filter (is_ref_of k) (delete_where (is_ref_of id) refs) ≡ filter (is_ref_of k) refs
refs_kept refs k id apart = filter-filter (is_ref_of k) (λ r. not (is_ref_of id r)) (λ r at. not_from_false (is_ref_of id r) (ne_eqb r.item id (λ same.
    both_ways (nat_eq k id) apart (eq-eqb k id (sym (eqb-true r.item k at) ∙ same))))) refs

module _ (suites : List Suite) (differ : AllPairs (λ s r. s.codename ≢ r.codename) suites) (items : Numbered ItemRow) (refs : List Ref) (shown : ShelvesValue) (was : Shelved suites items refs shown) where
  -- nothing stands on the shelf
  pub drop_none : (key : ShelfKey) → key.suite < length suites → find (is_on suites key) items ≡ None → Shelved suites items refs (remove shown key)
  drop_none key lt none = record {
    stands = λ k p. stands_at refs suites k _ _ _ _ refl (same k) (was.stands k p);
    within = λ k item e. was.within k item (sym (same k) ∙ e);
    rows = was.rows;
    apart = was.apart;
    owned = was.owned;
    rise = was.rise;
  }
    where
      free : get shown key ≡ None
      free = none_stands refs suites key _ (subst (λ f. Stands refs suites key f (get shown key)) none (was.stands key lt))

      same : (k : ShelfKey) → get (remove shown key) k ≡ get shown k
      same k = get-remove key_order_total shown key k ∙ go (eq_by_cmp key_order k key) refl
        where
          go : (b : Bool) → eq_by_cmp key_order k key ≡ b → cond b None (get shown k) ≡ get shown k
          go true tied = sym (ap (get shown) (same_keys key_order-IsAntisymmetric k key tied) ∙ free)
          go false apart = refl

  pub drop_some : (key : ShelfKey) (x : ℕ × ItemRow) → key.suite < length suites → find (is_on suites key) items ≡ Some x
      → Shelved suites (delete_where (λ y. nat_eq y.0 x.0) items) (delete_where (is_ref_of x.0) refs) (remove shown key)
  drop_some key x lt found = record {
    stands = λ k p. stands_at left suites k _ _ _ _ refl (get-remove key_order_total shown key k) (at k p (eq_by_cmp key_order k key) refl);
    within = λ k item e. was.within k item (before k (eq_by_cmp key_order k key) item (sym (get-remove key_order_total shown key k) ∙ e));
    rows = all-filter (OnSome suites) (λ y. not (gone y)) items was.rows;
    apart = ascending-filter (λ a b. same_shelf a.1 b.1 ≡ false) (λ y. not (gone y)) items was.apart;
    owned = all_filtered (λ r. list_any (λ y. nat_eq y.0 r.item) (delete_where gone items) ≡ true) (λ r. not (is_ref_of x.0 r)) refs
        (all_weaker (λ (r : Ref). list_any (λ y. nat_eq y.0 r.item) items ≡ true) (λ r. not (is_ref_of x.0 r) ≡ true → list_any (λ y. nat_eq y.0 r.item) (delete_where gone items) ≡ true) kept_owner refs was.owned);
    rise = ascending-filter (λ a b. a.0 < b.0) (λ y. not (gone y)) items was.rise;
  }
    where
      gone : ℕ × ItemRow → Bool
      gone y = nat_eq y.0 x.0

      left : List Ref
      left = delete_where (is_ref_of x.0) refs

      on : is_on suites key x ≡ true
      on = found_passes (is_on suites key) items x found

      is_it : AllByRecursion (λ y. gone y ≡ true → y ≡ x) items
      is_it = number_is (is_on suites key) items x was.rise found

      kept_owner : (r : Ref) → list_any (λ y. nat_eq y.0 r.item) items ≡ true → not (is_ref_of x.0 r) ≡ true → list_any (λ y. nat_eq y.0 r.item) (delete_where gone items) ≡ true
      kept_owner r some other = any_kept (λ y. nat_eq y.0 r.item) gone items (λ y out. ne_eqb y.0 r.item (λ same.
          both_ways (is_ref_of x.0 r) (not-true (is_ref_of x.0 r) other) (eq-eqb r.item x.0 (sym same ∙ eqb-true y.0 x.0 out)))) some

      before : (k : ShelfKey) (b : Bool) (item : shelf.Item) → cond b None (get shown k) ≡ Some item → get shown k ≡ Some item
      before k true item e = cc
      before k false item e = e

      only : AllByRecursion (λ y. is_on suites key y ≡ true → y ≡ x) items
      only = only_one (is_on suites key) items x
          (ascending_of items was.apart) found
        where
          ascending_of : (ys : Numbered ItemRow) → IsAscending (λ a b. same_shelf a.1 b.1 ≡ false) ys → IsAscending (λ a b. is_on suites key a ≡ true → is_on suites key b ≡ false) ys
          ascending_of [] up = tt
          ascending_of (y ∷ ys) up = (
            all_weaker (λ z. same_shelf y.1 z.1 ≡ false) (λ z. is_on suites key y ≡ true → is_on suites key z ≡ false) (λ z fails at. on_same suites key y z fails at) ys up.0,
            ascending_of ys up.1,
          )

      at : (k : ShelfKey) → k.suite < length suites → (b : Bool) → eq_by_cmp key_order k key ≡ b
          → Stands left suites k (find (is_on suites k) (delete_where gone items)) (cond b None (get shown k))
      at k p true tied =
          let same : k ≡ key = same_keys key_order-IsAntisymmetric k key tied in
          stands_at left suites k _ None None None
          (ap (λ q. find (is_on suites q) (delete_where gone items)) same
          ∙ find_gone (is_on suites key) gone items (all_weaker (λ y. is_on suites key y ≡ true → y ≡ x) (λ y. is_on suites key y ≡ true → gone y ≡ true) (λ y h holds. eq-eqb y.0 x.0 (ap (λ (z : ℕ × ItemRow). z.0) (h holds))) items only))
          refl tt
      at k p false apart =
          let off : is_on suites k x ≡ false = not_on suites differ k key x p lt apart on in
          let stay : AllByRecursion (λ y. gone y ≡ true → is_on suites k y ≡ false) items =
          all_weaker (λ y. gone y ≡ true → y ≡ x) (λ y. gone y ≡ true → is_on suites k y ≡ false) (λ y h holds. ap (is_on suites k) (h holds) ∙ off) items is_it in
          stands_at left suites k _ (find (is_on suites k) items) _ _ (find_kept (is_on suites k) gone items stay) refl
          (stands_refs refs left suites k (find (is_on suites k) items) (get shown k)
          (λ y e. refs_kept refs y.0 x.0 (false_from_ne_true (nat_eq y.0 x.0) (λ same.
          both_ways (is_on suites k y)
          (found_holds (is_on suites k) (λ z. gone z ≡ true → is_on suites k z ≡ false) items y stay e same)
          (found_passes (is_on suites k) items y e))))
          (was.stands k p))

-- ---- an item is put on an empty shelf

refs_past : (refs : List Ref) (k id : ℕ) (item : shelf.Item) → nat_eq id k ≡ false → filter (is_ref_of k) (refs ++ refs_for id item) ≡ filter (is_ref_of k) refs
unfolding refs_for
refs_past refs k id item apart =
    filter-append (is_ref_of k) refs (refs_for id item)
    ∙ ap (λ rs. filter (is_ref_of k) refs ++ rs) (filter_none (is_ref_of k) (refs_for id item) (all-map (λ (r : Ref). is_ref_of k r ≡ false) _ (λ f. apart) (enumerate_from 1 item.files)))
    ∙ append-nil (filter (is_ref_of k) refs)

refs_first : (refs : List Ref) (id : ℕ) (item : shelf.Item) → AllByRecursion (λ r. is_ref_of id r ≡ false) refs → refs_among (refs ++ refs_for id item) id ≡ refs_for id item
unfolding refs_for
refs_first refs id item none =
    ap (sorted_by ref_order)
    (filter-append (is_ref_of id) refs (refs_for id item)
    ∙ ap (λ rs. rs ++ filter (is_ref_of id) (refs_for id item)) (filter_none (is_ref_of id) refs none)
    ∙ filter_all (is_ref_of id) (refs_for id item) (all-map (λ (r : Ref). is_ref_of id r ≡ true) _ (λ f. eq-eqb id id refl) (enumerate_from 1 item.files)))
    ∙ refs_in_order id item

refs_of_item : (id : ℕ) (item : shelf.Item) → AllByRecursion (λ r. r.item ≡ id) (refs_for id item)
unfolding refs_for
refs_of_item id item = all-map (λ (r : Ref). r.item ≡ id) _ (λ f. refl) (enumerate_from 1 item.files)

-- a number above all is that of no item
above_all : (items : Numbered ItemRow) (n id : ℕ) → AllByRecursion (λ y. y.0 < n) items → list_any (λ y. nat_eq y.0 id) items ≡ true → id ≡ n → ⊥
above_all [] n id below some same = cc
above_all (y ∷ ys) n id below some same = go (nat_eq y.0 id) refl some (λ more. above_all ys n id below.1 more same)
  where
    go : (b : Bool) → nat_eq y.0 id ≡ b → (b || list_any (λ z. nat_eq z.0 id) ys) ≡ true → (list_any (λ z. nat_eq z.0 id) ys ≡ true → ⊥) → ⊥
    go true at s more = let e = eqb-true y.0 id at in let lt = below.0 in absurd (omega arith)
    go false at s more = more s

module _ (suites : List Suite) (differ : AllPairs (λ s r. s.codename ≢ r.codename) suites) (items : Numbered ItemRow) (refs : List Ref) (shown : ShelvesValue) (was : Shelved suites items refs shown) where
  pub put_shelf : (e : ShelfKey × shelf.Item) → e.0.suite < length suites → get shown e.0 ≡ None
      → Shelved suites (added items (item_row suites e)) (refs ++ refs_for (next_in items) e.1) (insert shown e.0 e.1)
  put_shelf e lt free = record {
    stands = λ k p. stands_at more suites k _ _ _ _ (find-append (is_on suites k) items (x ∷ [])) (get-insert key_order_total shown e.0 e.1 k) (at k p (eq_by_cmp key_order k e.0) refl);
    within = λ k item h. inside k (eq_by_cmp key_order k e.0) item refl (sym (get-insert key_order_total shown e.0 e.1 k) ∙ h);
    rows = all-append (OnSome suites) items (x ∷ []) was.rows (∣ (e.0, lt, row_on suites e n) ∣₁, tt);
    apart = ascending-append (λ a b. same_shelf a.1 b.1 ≡ false) items (x ∷ []) was.apart (tt, tt)
        (all_weaker (λ y. is_on suites e.0 y ≡ false) (λ y. AllByRecursion (λ z. same_shelf y.1 z.1 ≡ false) (x ∷ [])) (λ y off. (same_shelf_back y.1 x.1 (apart_from suites e.0 x y (row_on suites e n) off), tt)) items vacant);
    owned = all-append (λ (r : Ref). list_any (λ y. nat_eq y.0 r.item) (items ++ x ∷ []) ≡ true) refs (refs_for n e.1)
        (all_weaker (λ (r : Ref). list_any (λ y. nat_eq y.0 r.item) items ≡ true) (λ r. list_any (λ y. nat_eq y.0 r.item) (items ++ x ∷ []) ≡ true)
        (λ r some. list_any-append (λ (y : ℕ × ItemRow). nat_eq y.0 r.item) items (x ∷ []) ∙ or_left (list_any (λ (y : ℕ × ItemRow). nat_eq y.0 r.item) items) (list_any (λ (y : ℕ × ItemRow). nat_eq y.0 r.item) (x ∷ [])) some) refs was.owned)
        (all_weaker (λ (r : Ref). r.item ≡ n) (λ r. list_any (λ y. nat_eq y.0 r.item) (items ++ x ∷ []) ≡ true)
        (λ r its. list_any-append (λ (y : ℕ × ItemRow). nat_eq y.0 r.item) items (x ∷ [])
        ∙ or_right (list_any (λ (y : ℕ × ItemRow). nat_eq y.0 r.item) items) (list_any (λ (y : ℕ × ItemRow). nat_eq y.0 r.item) (x ∷ [])) (or_left (nat_eq n r.item) false (eq-eqb n r.item (sym its)))) (refs_for n e.1) (refs_of_item n e.1));
    rise = up;
  }
    where
      n : ℕ
      n = next_in items

      x : ℕ × ItemRow
      x = (n, item_row suites e)

      more : List Ref
      more = refs ++ refs_for n e.1

      up : Rises (added items (item_row suites e))
      up = rises_added items (item_row suites e) was.rise

      below : AllByRecursion (λ y. y.0 < n) items
      below = below_last items x up

      none : find (is_on suites e.0) items ≡ None
      none = stands_none refs suites e.0 _ (subst (Stands refs suites e.0 (find (is_on suites e.0) items)) free (was.stands e.0 lt))

      vacant : AllByRecursion (λ y. is_on suites e.0 y ≡ false) items
      vacant = none_passes (is_on suites e.0) items none

      unowned : AllByRecursion (λ r. is_ref_of n r ≡ false) refs
      unowned = all_weaker (λ (r : Ref). list_any (λ y. nat_eq y.0 r.item) items ≡ true) (λ r. is_ref_of n r ≡ false)
          (λ r some. ne_eqb r.item n (above_all items n r.item below some)) refs was.owned

      inside : (k : ShelfKey) (b : Bool) (item : shelf.Item) → eq_by_cmp key_order k e.0 ≡ b → cond b (Some e.1) (get shown k) ≡ Some item → k.suite < length suites
      inside k true item tied h = subst (λ (q : ShelfKey). q.suite < length suites) (sym (same_keys key_order-IsAntisymmetric k e.0 tied)) lt
      inside k false item tied h = was.within k item h

      at : (k : ShelfKey) → k.suite < length suites → (b : Bool) → eq_by_cmp key_order k e.0 ≡ b
          → Stands more suites k (option_or (find (is_on suites k) items) (cond (is_on suites k x) (Some x) None)) (cond b (Some e.1) (get shown k))
      at k p true tied = subst
          (λ q. Stands more suites q (option_or (find (is_on suites q) items) (cond (is_on suites q x) (Some x) None)) (Some e.1))
          (sym (same_keys key_order-IsAntisymmetric k e.0 tied))
          (stands_at more suites e.0 _ (Some x) (Some e.1) (Some e.1)
          (ap (λ o. option_or o (cond (is_on suites e.0 x) (Some x) None)) none ∙ ap (λ b. cond b (Some x) None) (row_on suites e n))
          refl
          (ap (λ rs. (item_row suites e, rs)) (refs_first refs n e.1 unowned)))
      at k p false apart =
          let off : is_on suites k x ≡ false = not_on suites differ k e.0 x p lt apart (row_on suites e n) in
          stands_at more suites k _ (find (is_on suites k) items) _ _
          (ap (λ b. option_or (find (is_on suites k) items) (cond b (Some x) None)) off ∙ option_or_none (find (is_on suites k) items))
          refl
          (stands_refs refs more suites k (find (is_on suites k) items) (get shown k)
          (λ y f. refs_past refs y.0 n e.1 (ne_eqb n y.0 (λ same.
          let lower : y.0 < n = found_holds (is_on suites k) (λ z. z.0 < n) items y below f in absurd (omega arith))))
          (was.stands k p))
