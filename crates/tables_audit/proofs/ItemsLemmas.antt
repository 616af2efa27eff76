-- Rows that show what shelves do are those of an archive's items, and no row of an archive's items is refused.
use Rattle.std.proofs.Common.{◌≡◌, ◌≢◌, ℕ, ◌+◌, ◌<◌, ◌≤◌, Bool, true, false, not, ◌&&◌, ◌||◌, cond, List, [], ◌∷◌, ◌++◌, map, filter, find, length, take, drop, get_or, refl, sym, ap, ap₂, subst, ◌∙◌, arith, inl, inr, AllPairs, Option, Some, None, option_map, nat_eq, bytes_eq}
use Rattle.std.specs.Prelude.{Contains, IsTrue}
use Rattle.std.specs.List.{All, AllByRecursion, cons_option, enumerate_from, filter_map, list_any}
use Rattle.std.specs.Option.{option_and_then, option_map_or, option_or}
use Rattle.std.specs.Ordering.{eq_by_cmp}
use Rattle.std.specs.FinMap.{get, values, empty, get-empty, get-insert, get-from_entries}
use Rattle.std.specs.FinMap as keyed
use Rattle.std.proofs.lemmas.Bool.{both_ways, and_parts, and_from, eq-eqb, eqb-true, ne_eqb, false_from_ne_true, cases_lt}
use Rattle.std.proofs.lemmas.List.{drop_all, drop_more, take-append-drop, take_more}
use Rattle.std.proofs.lemmas.List.Elements.{All-append, All-cons, All-from_recursion, All-nil, recursion_from_All}
use Rattle.std.proofs.lemmas.List.Sorted.{All-permutation, IsPermutation-sym}
use Rattle.std.proofs.lemmas.Option.{same_Some}
use Rattle.std.proofs.lemmas.Slice.Eq.{bytes_eq-Decides}
use Rattle.std.proofs.Math.Logic.{∥∥₁_elim}
use Rattle.std.proofs.Props.{props}
use Rattle.sqlite_keyed.proofs.SortLemmas.{IsPermutation-sort_by}
use Rattle.rules.specs.declared.suite.Suite.{Suite}
use Rattle.sums.proofs.Members.{all_at, all_from, any_none, contains_map, here, pairs_head, pairs_tail, there}
use Rattle.sums.specs.Prints.{same_print}
use Rattle.sums.specs.declared.print.Print.{Print}
use Rattle.suites.specs.Keys.{key_order, kind_number}
use Rattle.suites.specs.KeyLemmas.{key_order_total, key_order-IsAntisymmetric, text_order_total}
use Rattle.suites.specs.Pool.{files_of, pair_of}
use Rattle.suites.specs.Shelves.{AreSound, ShelvesValue, pool}
use Rattle.suites.specs.declared.item.Item as shelf
use Rattle.suites.specs.declared.item.PoolFile.{PoolFile}
use Rattle.suites.specs.declared.key.ShelfKey.{ShelfKey}
use Rattle.suites.proofs.EntryLemmas.{same_keys}
use Rattle.suites.proofs.FileMembers.{files_contain, item_of_file, shown_value, value_shown}
use Rattle.suites.proofs.PoolLookups.{find-Contains}
use Rattle.suites.specs.Codenames.{codename_at}
use Rattle.suites.proofs.ListTests.{option_or_none}
use Rattle.tables.specs.Items.{is_item}
use Rattle.tables.specs.Refs.{is_ref_of}
use Rattle.tables.specs.Rows.{Numbered, Tables, rows_of}
use Rattle.tables.specs.declared.rows.ItemRow.{ItemRow}
use Rattle.tables.specs.declared.rows.Ref.{Ref}
use Rattle.tables_read.specs.All.{AreConstrained}
use Rattle.tables_meaning.specs.Kept.{AreItems, AreReadable, IsReadable, is_on, ref_order, refs_among, refs_for, refs_in, shown_row, ref_for}
use Rattle.tables_meaning.specs.Kept as kept
use Rattle.tables_meaning.specs.Shown.{clash, entry_in, file_in, is_taken, item_with, may_not_join, shown_in}
use Rattle.tables_meaning.proofs.NumberOrders.{ref_order_total}
use Rattle.tables_meaning.proofs.ShownLemmas.{entry_on, find_beyond, find_shown, item_parts, on_entry, shown_is}
use Rattle.tables_meaning.proofs.RealItems.{both_on}
use Rattle.book.proofs.Prints.{same_print-Decides}
use Rattle.book.proofs.Finds.{found_passes, found_in}
use Rattle.tables_audit.specs.Items.{AreShown, AreStopped, IsShown, Joins, MayJoin, are_numbered_from, entry_at}

-- ---- files and their numbers

-- the files of an item have its number
own_rows : (id : ℕ) (refs : List Ref) → AllByRecursion (λ r. r.item ≡ id) (filter (is_ref_of id) refs)
own_rows id [] = tt
own_rows id (r ∷ refs) = go (nat_eq r.item id) refl (own_rows id refs)
  where
    go : (b : Bool) → nat_eq r.item id ≡ b → AllByRecursion (λ s. s.item ≡ id) (filter (is_ref_of id) refs)
        → AllByRecursion (λ s. s.item ≡ id) (cond b (r ∷ filter (is_ref_of id) refs) (filter (is_ref_of id) refs))
    go true t more = (eqb-true r.item id t, more)
    go false t more = more

own_refs : (id : ℕ) (refs : List Ref) → AllByRecursion (λ r. r.item ≡ id) (refs_among refs id)
own_refs id refs =
    let of_item = filter (is_ref_of id) refs in
    recursion_from_All (λ (r : Ref). r.item ≡ id) (refs_among refs id)
    (All-permutation (λ (r : Ref). r.item ≡ id) of_item (refs_among refs id)
    (IsPermutation-sym (refs_among refs id) of_item (IsPermutation-sort_by ref_order ref_order_total of_item))
    (All-from_recursion (λ (r : Ref). r.item ≡ id) of_item (own_rows id refs)))

-- numbered files are those of their item
numbered_back : (id n : ℕ) (refs : List Ref) → AllByRecursion (λ r. r.item ≡ id) refs → are_numbered_from n refs ≡ true
    → map (ref_for id) (enumerate_from n (map file_in refs)) ≡ refs
unfolding are_numbered_from
numbered_back id n [] own h = refl
numbered_back id n (r ∷ refs) own h =
    let parts = and_parts (nat_eq r.number n) (are_numbered_from (n + 1) refs) h in
    let item : id ≡ r.item = sym own.0 in
    let number : n ≡ r.number = sym (eqb-true r.number n parts.0) in
    let first : ref_for id (n, file_in r) ≡ r = λ i. record { item = item i; number = number i; path = r.path; print = r.print } in
    ap₂ (λ x xs. x ∷ xs) first (numbered_back id (n + 1) refs own.1 parts.1)

-- the rows of an item's files are numbered
for_numbered : (id n : ℕ) (fs : List PoolFile) → are_numbered_from n (map (ref_for id) (enumerate_from n fs)) ≡ true
unfolding are_numbered_from
for_numbered id n [] = refl
for_numbered id n (f ∷ fs) = and_from (nat_eq n n) (are_numbered_from (n + 1) (map (ref_for id) (enumerate_from (n + 1) fs))) (eq-eqb n n refl) (for_numbered id (n + 1) fs)

-- the first of the files that are left has another number
pub misnumbered : (refs : List Ref) (n : ℕ) (d : Ref) → n < length refs → (get_or refs n d).number ≢ n + 1 → are_numbered_from (n + 1) (drop n refs) ≡ are_numbered_from 1 refs
    → false ≡ are_numbered_from 1 refs
unfolding are_numbered_from
misnumbered refs n d lt other so_far =
    let rest = drop (n + 1) refs in
    sym (ap (λ b. b && are_numbered_from (n + 1 + 1) rest) (ne_eqb (get_or refs n d).number (n + 1) other))
    ∙ sym (ap (are_numbered_from (n + 1)) (drop_more refs n d lt))
    ∙ so_far

-- the first of the files that are left has its number
pub numbered_more : (refs : List Ref) (n : ℕ) (d : Ref) → n < length refs → (get_or refs n d).number ≡ n + 1 → are_numbered_from (n + 1) (drop n refs) ≡ are_numbered_from 1 refs
    → are_numbered_from (n + 1 + 1) (drop (n + 1) refs) ≡ are_numbered_from 1 refs
unfolding are_numbered_from
numbered_more refs n d lt same so_far =
    let rest = drop (n + 1) refs in
    sym (ap (λ b. b && are_numbered_from (n + 1 + 1) rest) (eq-eqb (get_or refs n d).number (n + 1) same))
    ∙ sym (ap (are_numbered_from (n + 1)) (drop_more refs n d lt))
    ∙ so_far

-- no file is left
pub numbered_all : (refs : List Ref) (n : ℕ) → length refs ≤ n → are_numbered_from (n + 1) (drop n refs) ≡ are_numbered_from 1 refs → true ≡ are_numbered_from 1 refs
unfolding are_numbered_from
numbered_all refs n all so_far = sym (ap (are_numbered_from (n + 1)) (drop_all n refs all)) ∙ so_far

-- ---- rows one after the other

abbrev Entry : Type 0
Entry = ShelfKey × shelf.Item

-- what stands on a shelf is what the first rows show, or else the others
found_append : (f : ℕ × ItemRow → Option Entry) (key : ShelfKey) (xs ys : Numbered ItemRow)
    → keyed.find key_order key (filter_map f (xs ++ ys)) ≡ option_or (keyed.find key_order key (filter_map f xs)) (keyed.find key_order key (filter_map f ys))
found_append f key [] ys = refl
found_append f key (x ∷ xs) ys = step (f x) (found_append f key xs ys)
  where
    step : (o : Option Entry) → keyed.find key_order key (filter_map f (xs ++ ys)) ≡ option_or (keyed.find key_order key (filter_map f xs)) (keyed.find key_order key (filter_map f ys))
        → keyed.find key_order key (cons_option o (filter_map f (xs ++ ys))) ≡ option_or (keyed.find key_order key (cons_option o (filter_map f xs))) (keyed.find key_order key (filter_map f ys))
    step None more = more
    step (Some e) more =
        elim (eq_by_cmp key_order key e.0) as (λ b. cond b (Some e.1) (keyed.find key_order key (filter_map f (xs ++ ys)))
        ≡ option_or (cond b (Some e.1) (keyed.find key_order key (filter_map f xs))) (keyed.find key_order key (filter_map f ys))) [
          | true ↦ refl
          | false ↦ more
        ]

-- at first no row is read
pub none_shown : (suites : List Suite) (refs : Numbered Ref) (shelves : ShelvesValue) → shelves ≡ empty → AreShown suites refs [] shelves
none_shown suites refs shelves none = record {
  stands = λ key. ap (λ (m : ShelvesValue). get m key) none ∙ get-empty key_order key;
  each = All-nil (IsShown suites refs);
}

-- one more row
pub one_shown : (suites : List Suite) (refs : Numbered Ref) (items : Numbered ItemRow) (x : ℕ × ItemRow) (old new : ShelvesValue) → AreShown suites refs items old → Joins suites refs x old new
    → AreShown suites refs (items ++ x ∷ []) new
one_shown suites refs items x old new shown joins = record {
  stands = λ key.
      let e = joins.puts.entry in
      let so_far = keyed.find key_order key (filter_map (entry_at suites refs) items) in
      ap (λ (m : ShelvesValue). get m key) joins.puts.put.made
      ∙ get-insert key_order_total old e.0 e.1 key
      ∙ go key (eq_by_cmp key_order key e.0) refl
      ∙ ap (λ o. option_or so_far (keyed.find key_order key (cons_option o []))) (sym joins.puts.is)
      ∙ sym (found_append (entry_at suites refs) key items (x ∷ []));
  each =
      All-append (IsShown suites refs) items (x ∷ []) shown.each
      (All-cons (IsShown suites refs) x [] (record { readable = joins.readable; numbered = joins.numbered; entry = joins.puts.entry; is = joins.puts.is }) (All-nil (IsShown suites refs)));
}
  where
    go : (key : ShelfKey) (b : Bool) → eq_by_cmp key_order key joins.puts.entry.0 ≡ b
        → cond b (Some joins.puts.entry.1) (get old key) ≡ option_or (keyed.find key_order key (filter_map (entry_at suites refs) items)) (cond b (Some joins.puts.entry.1) None)
    go key true tied =
        ap (λ o. option_or o (Some joins.puts.entry.1))
        (sym (sym (shown.stands key) ∙ ap (get old) (same_keys key_order-IsAntisymmetric key joins.puts.entry.0 tied) ∙ joins.puts.put.free))
    go key false apart = shown.stands key ∙ sym (option_or_none (keyed.find key_order key (filter_map (entry_at suites refs) items)))

-- one more row of these
pub shown_more : (suites : List Suite) (refs : Numbered Ref) (items : Numbered ItemRow) (n : ℕ) (d : ℕ × ItemRow) (old new : ShelvesValue) → n < length items → AreShown suites refs (take n items) old
    → Joins suites refs (get_or items n d) old new → AreShown suites refs (take (n + 1) items) new
shown_more suites refs items n d old new lt shown joins =
    subst (λ xs. AreShown suites refs xs new) (sym (take_more items n d lt)) (one_shown suites refs (take n items) (get_or items n d) old new shown joins)

-- the row there may not come to its shelf
pub stopped_at : (suites : List Suite) (refs : Numbered Ref) (items : Numbered ItemRow) (n : ℕ) (d : ℕ × ItemRow) (shelves : ShelvesValue) → n < length items → AreShown suites refs (take n items) shelves
    → ¬ MayJoin suites refs (get_or items n d) shelves → AreStopped suites refs items
stopped_at suites refs items n d shelves lt shown refused = record {
  before = take n items;
  row = get_or items n d;
  behind = drop (n + 1) items;
  are = sym (take-append-drop n items) ∙ ap (λ xs. take n items ++ xs) (drop_more items n d lt);
  shelves = shelves;
  shown = shown;
  refused = refused;
}

-- ---- rows that were all shown

-- a row that is on a shelf is the row of the item that it shows there
row_back : (suites : List Suite) (t : Tables) (key : ShelfKey) (x : ℕ × ItemRow) → is_on suites key x ≡ true → are_numbered_from 1 (refs_in t x.0) ≡ true
    → kept.shown_in t x ≡ shown_row suites key x.0 (item_with key.kind x.1 (refs_in t x.0))
unfolding refs_for
row_back suites t key x on numbered =
    let parts = item_parts (codename_at suites key.suite) (kind_number key.kind) key.«package» key.architecture x.1 on in
    let refs : refs_in t x.0 ≡ refs_for x.0 (item_with key.kind x.1 (refs_in t x.0)) = sym (numbered_back x.0 1 (refs_in t x.0) (own_refs x.0 (rows_of t.refs)) numbered) in
    λ i. (
      record {
        suite = parts.at_suite i;
        kind = parts.at_kind i;
        «package» = parts.at_name i;
        architecture = parts.at_architecture i;
        version = x.1.version;
        component = x.1.component;
        source = x.1.source;
        paragraph = x.1.paragraph;
      },
      refs i,
    )

module _ (suites : List Suite) (differ : AllPairs (λ s r. s.codename ≢ r.codename) suites) (t : Tables) (shelves : ShelvesValue) (h : AreShown suites t.refs t.items shelves) where
  -- what stands on a shelf is what its row shows
  stands_there : (key : ShelfKey) → key.suite < length suites → get shelves key ≡ option_map (λ x. item_with key.kind x.1 (refs_in t x.0)) (find (is_on suites key) t.items)
  stands_there key lt = h.stands key ∙ find_shown suites differ t key lt t.items

  row_there : (key : ShelfKey) (f : Option (ℕ × ItemRow)) → find (is_on suites key) t.items ≡ f → get shelves key ≡ option_map (λ x. item_with key.kind x.1 (refs_in t x.0)) f
      → option_map (kept.shown_in t) f ≡ option_and_then (λ x. option_map (shown_row suites key x.0) (get shelves key)) f
  row_there key None found stands = refl
  row_there key (Some x) found stands =
      let shown = all_at (IsShown suites t.refs) t.items x h.each (found_in (is_on suites key) t.items x found) in
      ap Some (row_back suites t key x (found_passes (is_on suites key) t.items x found) shown.numbered)
      ∙ ap (option_map (shown_row suites key x.0)) (sym stands)

  same_presence : (key : ShelfKey) (f : Option (ℕ × ItemRow)) → get shelves key ≡ option_map (λ x. item_with key.kind x.1 (refs_in t x.0)) f
      → option_map (λ _. true) f ≡ option_map (λ _. true) (get shelves key)
  same_presence key None stands = ap (option_map (λ _. true)) (sym stands)
  same_presence key (Some x) stands = ap (option_map (λ _. true)) (sym stands)

  is_within : (key : ShelfKey) (item : shelf.Item) → get shelves key ≡ Some item → key.suite < length suites
  is_within key item e = elim (cases_lt key.suite (length suites)) [
    | inl below ↦ below
    | inr beyond ↦ let none : Some item ≡ None = sym e ∙ h.stands key ∙ find_beyond suites differ t key (omega arith) t.items in cc
  ]

  pub items_fit : AreConstrained t → AreItems t suites shelves
  items_fit keys = record {
    are = λ key lt. row_there key (find (is_on suites key) t.items) refl (stands_there key lt);
    all = λ key lt. same_presence key (find (is_on suites key) t.items) (stands_there key lt);
    within = is_within;
    rows = all_from (λ x. ∥ ((key : ShelfKey) × (key.suite < length suites) × IsTrue (is_on suites key x)) ∥₁) t.items (λ x at.
        let shown = all_at (IsShown suites t.refs) t.items x h.each at in
        let on = entry_on suites differ t x shown.entry shown.is in
        ∣ (shown.entry.0, on.0, on.1) ∣₁);
    apart = keys.items_apart;
    owned = keys.refs_owned;
  }

  pub all_readable : AreReadable t
  all_readable = all_rows t.items (λ x at. (all_at (IsShown suites t.refs) t.items x h.each at).readable)
    where
      all_rows : (xs : Numbered ItemRow) → ((x : ℕ × ItemRow) → Contains xs x → IsReadable x.1) → All IsReadable (rows_of xs)
      all_rows [] each = All-nil IsReadable
      all_rows (x ∷ xs) each = All-cons IsReadable x.1 (rows_of xs) (each x (here x xs)) (all_rows xs (λ y at. each y (there x y xs at)))

-- ---- a row that was refused

in_middle : {X : Type 0} (before : List X) (x : X) (behind : List X) → Contains (before ++ x ∷ behind) x
in_middle [] x behind = here x behind
in_middle (y ∷ before) x behind = there y x (before ++ x ∷ behind) (in_middle before x behind)

-- the rows before one are apart from it
before_apart : (R : ItemRow → ItemRow → Type 0) (before : Numbered ItemRow) (x : ℕ × ItemRow) (behind : Numbered ItemRow) → AllPairs R (rows_of (before ++ x ∷ behind)) → AllByRecursion (λ y. R y.1 x.1) before
before_apart R [] x behind apart = tt
before_apart R (y ∷ before) x behind apart = (
  all_at (R y.1) (rows_of (before ++ x ∷ behind)) x.1 (pairs_head R y.1 (rows_of (before ++ x ∷ behind)) apart) (contains_map (λ z. z.1) x (before ++ x ∷ behind) (in_middle before x behind)),
  before_apart R before x behind (pairs_tail R y.1 (rows_of (before ++ x ∷ behind)) apart),
)

-- a search finds nothing if no row passes
found_none : {X : Type 0} (p : X → Bool) (xs : List X) → AllByRecursion (λ y. p y ≡ false) xs → find p xs ≡ None
found_none p [] h = refl
found_none p (x ∷ xs) h = rw h.0 (found_none p xs h.1)

found_there : {X : Type 0} (p : X → Bool) (before : List X) (x : X) (behind : List X) → AllByRecursion (λ y. p y ≡ false) before → p x ≡ true → find p (before ++ x ∷ behind) ≡ Some x
found_there p [] x behind h e = rw e refl
found_there p (y ∷ before) x behind h e = rw h.0 (found_there p before x behind h.1 e)

not_before : (suites : List Suite) (key : ShelfKey) (x : ℕ × ItemRow) (before : Numbered ItemRow) → is_on suites key x ≡ true
    → AllByRecursion (λ y. is_item y.1.suite y.1.kind y.1.«package» y.1.architecture x.1 ≡ false) before → AllByRecursion (λ y. is_on suites key y ≡ false) before
not_before suites key x [] on apart = tt
not_before suites key x (y ∷ before) on apart = (
  false_from_ne_true (is_on suites key y) (λ also. both_ways (is_item y.1.suite y.1.kind y.1.«package» y.1.architecture x.1) apart.0 (both_on suites key y x also on)),
  not_before suites key x before on apart.1,
)

-- an item of sound shelves fits beside others of these
module _ (shown so_far : ShelvesValue) (sound : AreSound shown) (part : (key : ShelfKey) (item : shelf.Item) → get so_far key ≡ Some item → get shown key ≡ Some item)
    (key : ShelfKey) (item : shelf.Item) (at : get shown key ≡ Some item) where
  file_shown : (f : PoolFile) → Contains item.files f → Contains (files_of (values shown)) (f.path, f.print)
  file_shown f inside = files_contain (values shown) item (f.path, f.print) (value_shown shown key item at) (contains_map pair_of f item.files inside)

  part_shown : (path : List ℕ) (print : Print) → Contains (files_of (values so_far)) (path, print) → Contains (files_of (values shown)) (path, print)
  part_shown path print inside =
      let one = item_of_file (values so_far) (path, print) inside in
      let there = shown_value so_far one.0 one.1 in
      files_contain (values shown) one.0 (path, print) (value_shown shown there.0 one.0 (part there.0 one.0 there.1)) one.2

  not_taken : (f : PoolFile) → Contains item.files f → is_taken (pool so_far) f ≡ false
  unfolding is_taken
  not_taken f inside = go (get (pool so_far) f.path) refl
    where
      go : (o : Option Print) → get (pool so_far) f.path ≡ o → option_map_or (λ there. not (same_print there f.print)) o false ≡ false
      go None e = refl
      go (Some p) e =
          let there = part_shown f.path p (find-Contains f.path (files_of (values so_far)) p (sym (get-from_entries text_order_total (files_of (values so_far)) f.path) ∙ e)) in
          ap not ((same_print-Decides p f.print).1 (sound.agreed f.path p f.print there (file_shown f inside)))

  no_clash : (f g : PoolFile) → Contains item.files f → Contains item.files g → clash f g ≡ false
  unfolding clash
  no_clash f g one other = go (bytes_eq f.path g.path) refl
    where
      go : (b : Bool) → bytes_eq f.path g.path ≡ b → b && not (same_print f.print g.print) ≡ false
      go false e = refl
      go true e =
          let path : f.path ≡ g.path = (bytes_eq-Decides f.path g.path).0 e in
          ap not ((same_print-Decides f.print g.print).1 (sound.agreed f.path f.print g.print (file_shown f one) (subst (λ p. Contains (files_of (values shown)) (p, g.print)) (sym path) (file_shown g other))))

  pub may_fit : list_any (may_not_join (pool so_far) item.files) item.files ≡ false
  unfolding may_not_join
  may_fit = any_none (may_not_join (pool so_far) item.files) item.files (λ f inside.
      neither_of (is_taken (pool so_far) f) (list_any (clash f) item.files) (not_taken f inside) (any_none (clash f) item.files (λ g other. no_clash f g inside other)))
    where
      neither_of : (a b : Bool) → a ≡ false → b ≡ false → a || b ≡ false
      neither_of a b p q = rw p q

module _ (suites : List Suite) (differ : AllPairs (λ s r. s.codename ≢ r.codename) suites) (t : Tables) (readable : AreReadable t)
    (shown : ShelvesValue) (fit : AreItems t suites shown) (sound : AreSound shown) (stopped : AreStopped suites t.refs t.items) where
  -- what the rows before show is shown
  part_of : (key : ShelfKey) (item : shelf.Item) → get stopped.shelves key ≡ Some item → get shown key ≡ Some item
  unfolding shown_in
  part_of key item e =
      sym (ap (λ (m : ShelvesValue). get m key) (shown_is t suites shown fit sound.at_home differ))
      ∙ get-from_entries key_order_total (filter_map (entry_in suites t) t.items) key
      ∙ ap (λ xs. keyed.find key_order key (filter_map (entry_in suites t) xs)) stopped.are
      ∙ found_append (entry_in suites t) key stopped.before (stopped.row ∷ stopped.behind)
      ∙ ap (λ o. option_or o (keyed.find key_order key (filter_map (entry_in suites t) (stopped.row ∷ stopped.behind)))) (sym (stopped.shown.stands key) ∙ e)

  shown_at : (key : ShelfKey) → key.suite < length suites → get shown key ≡ option_map (λ x. item_with key.kind x.1 (refs_in t x.0)) (find (is_on suites key) t.items)
  unfolding shown_in
  shown_at key lt =
      sym (ap (λ (m : ShelvesValue). get m key) (shown_is t suites shown fit sound.at_home differ))
      ∙ get-from_entries key_order_total (filter_map (entry_in suites t) t.items) key
      ∙ find_shown suites differ t key lt t.items

  module _ (key : ShelfKey) (lt : key.suite < length suites) (on : is_on suites key stopped.row ≡ true) where
    abbrev item : shelf.Item
    item = item_with key.kind stopped.row.1 (refs_in t stopped.row.0)

    off_before : AllByRecursion (λ y. is_on suites key y ≡ false) stopped.before
    off_before =
        not_before suites key stopped.row stopped.before on
        (before_apart (λ y x. is_item y.suite y.kind y.«package» y.architecture x ≡ false) stopped.before stopped.row stopped.behind
        (subst (λ xs. AllPairs (λ (y x : ItemRow). is_item y.suite y.kind y.«package» y.architecture x ≡ false) (rows_of xs)) stopped.are fit.apart))

    found : find (is_on suites key) t.items ≡ Some stopped.row
    found = ap (find (is_on suites key)) stopped.are ∙ found_there (is_on suites key) stopped.before stopped.row stopped.behind off_before on

    there_shown : get shown key ≡ Some item
    there_shown = shown_at key lt ∙ ap (option_map (λ x. item_with key.kind x.1 (refs_in t x.0))) found

    numbered : are_numbered_from 1 (refs_in t stopped.row.0) ≡ true
    unfolding refs_for
    numbered =
        let row : kept.shown_in t stopped.row ≡ shown_row suites key stopped.row.0 item = same_Some _ _ (
        ap (option_map (kept.shown_in t)) (sym found)
        ∙ fit.are key lt
        ∙ ap (option_and_then (λ x. option_map (shown_row suites key x.0) (get shown key))) found
        ∙ ap (option_map (shown_row suites key stopped.row.0)) there_shown) in
        ap (λ (p : ItemRow × List Ref). are_numbered_from 1 p.1) row ∙ for_numbered stopped.row.0 1 item.files

    free : get stopped.shelves key ≡ None
    free =
        stopped.shown.stands key
        ∙ find_shown suites differ t key lt stopped.before
        ∙ ap (option_map (λ x. item_with key.kind x.1 (refs_in t x.0))) (found_none (is_on suites key) stopped.before off_before)

    inside : Contains t.items stopped.row
    inside = subst (λ xs. Contains xs stopped.row) (sym stopped.are) (in_middle stopped.before stopped.row stopped.behind)

    contradicted : ⊥
    contradicted = stopped.refused (record {
      numbered = numbered;
      stands = record {
        readable = all_at IsReadable (rows_of t.items) stopped.row.1 readable (contains_map (λ x. x.1) stopped.row t.items inside);
        entry = (key, item);
        is = on_entry suites differ t key stopped.row lt on;
        may = record { free = free; fits = may_fit shown stopped.shelves sound part_of key item there_shown };
      };
    })

  -- No row of an archive's items is refused.
  pub none_stopped : ⊥
  none_stopped =
      ∥∥₁_elim (all_at (λ x. ∥ ((key : ShelfKey) × (key.suite < length suites) × IsTrue (is_on suites key x)) ∥₁) t.items stopped.row fit.rows
      (subst (λ xs. Contains xs stopped.row) (sym stopped.are) (in_middle stopped.before stopped.row stopped.behind))) (hlevel props)
      (λ on. contradicted on.0 on.1 on.2)
