-- What the rows of items and of their files show is what the suites show; and items that may join a pool.
use Rattle.std.proofs.Common.{◌≡◌, ◌≢◌, ℕ, ◌+◌, ◌<◌, ◌≤◌, Bool, true, false, not, ◌&&◌, cond, List, [], ◌∷◌, ◌++◌, map, find, length, get_or, refl, sym, ap, subst, ◌∙◌, arith, inl, inr, AllPairs, Option, Some, None, option_map, nat_eq, nat_lt, bytes_eq, if◌then◌else◌}
use Rattle.std.specs.Prelude.{Contains}
use Rattle.std.specs.List.{All, cons_option, enumerate_from, filter_map, list_any, position_or_len}
use Rattle.std.specs.Option.{option_and_then, option_map_or, option_or}
use Rattle.std.specs.Ordering.{eq_by_cmp}
use Rattle.std.specs.Cmp.{eq_by_cmp_equiv}
use Rattle.std.specs.FinMap.{get, entries, values, get-insert, get-from_entries, same_map}
use Rattle.std.specs.FinMap as keyed
use Rattle.std.proofs.lemmas.Bool.{both_ways, and_parts, and_from, eq-eqb, eqb-true, false_from_ne_true, cases_lt, lt-ltb}
use Rattle.std.proofs.lemmas.List.Elements.{Contains-append_cases}
use Rattle.std.proofs.lemmas.List.Quantifiers.{position-Some}
use Rattle.std.proofs.lemmas.List.Sums.{position_or_len_is}
use Rattle.std.proofs.lemmas.Option.{slice_get-get_or, same_Some}
use Rattle.rules.specs.declared.suite.Suite.{Suite}
use Rattle.sums.proofs.Booleans.{neither, passed}
use Rattle.sums.proofs.Members.{all_at, any_false, from_map, no_member}
use Rattle.sums.specs.Prints.{same_print}
use Rattle.sums.specs.declared.print.Print.{Print}
use Rattle.sums.proofs.Agree.{same_bytes, bytes_same}
use Rattle.suites.specs.Admission.{MayJoin}
use Rattle.suites.specs.Items.{IsAtHome, standing}
use Rattle.suites.specs.Keys.{key_order, kind_number, kind_numbered}
use Rattle.suites.specs.KeyLemmas.{key_order_total, key_order-IsAntisymmetric}
use Rattle.suites.specs.Pool.{AreAgreed, files_of, pair_of}
use Rattle.suites.specs.Shelves.{AreSound, ShelvesValue, pool}
use Rattle.suites.specs.declared.item.Item as shelf
use Rattle.suites.specs.declared.item.PoolFile.{PoolFile}
use Rattle.suites.specs.declared.key.Kind.{Kind}
use Rattle.suites.specs.declared.key.Kind.TheVariants.{Source, Binary}
use Rattle.suites.specs.declared.key.ShelfKey.{ShelfKey}
use Rattle.suites.proofs.EntryLemmas.{same_keys}
use Rattle.suites.proofs.FileMembers.{entry_shown}
use Rattle.suites.proofs.PoolLookups.{get-pool_of}
use Rattle.suites.proofs.Prints.{same_print-equal}
use Rattle.suites.specs.Codenames.{codename_at}
use Rattle.suites.proofs.ListTests.{option_or_none}
use Rattle.tables.specs.Items.{is_item}
use Rattle.tables.specs.Rows.{Numbered, Tables}
use Rattle.tables.specs.declared.rows.ItemRow.{ItemRow}
use Rattle.tables.specs.declared.rows.Ref.{Ref}
use Rattle.tables_meaning.specs.Kept.{AreItems, is_on, item_row, refs_for, refs_in, shown_row}
use Rattle.tables_meaning.specs.Kept as kept
use Rattle.tables_meaning.specs.Shown.{AreLeft, IsPut, MayBePut, MayStand, PutsRow, clash, entry_in, entry_with, file_in, is_taken, item_with, may_not_join, shown_in}
use Rattle.rules.specs.Suites.{suite_named}

-- ---- rows and the keys of shelves

-- an item and the columns that name its shelf
pub record IsItem (suite : List ℕ) (kind : ℕ) (name architecture : List ℕ) (x : ItemRow) : Type 0 where
  pub at_suite : x.suite ≡ suite
  pub at_kind : x.kind ≡ kind
  pub at_name : x.«package» ≡ name
  pub at_architecture : x.architecture ≡ architecture

pub item_parts : (suite : List ℕ) (kind : ℕ) (name architecture : List ℕ) (x : ItemRow) → is_item suite kind name architecture x ≡ true → IsItem suite kind name architecture x
item_parts suite kind name architecture x h =
    let last = and_parts (bytes_eq x.suite suite && nat_eq x.kind kind && bytes_eq x.«package» name) (bytes_eq x.architecture architecture) h in
    let third = and_parts (bytes_eq x.suite suite && nat_eq x.kind kind) (bytes_eq x.«package» name) last.0 in
    let first = and_parts (bytes_eq x.suite suite) (nat_eq x.kind kind) third.0 in
    record {
      at_suite = same_bytes x.suite suite first.0;
      at_kind = eqb-true x.kind kind first.1;
      at_name = same_bytes x.«package» name third.1;
      at_architecture = same_bytes x.architecture architecture last.1;
    }

pub item_from : (suite : List ℕ) (kind : ℕ) (name architecture : List ℕ) (x : ItemRow) → IsItem suite kind name architecture x → is_item suite kind name architecture x ≡ true
item_from suite kind name architecture x h =
    and_from (bytes_eq x.suite suite && nat_eq x.kind kind && bytes_eq x.«package» name) (bytes_eq x.architecture architecture)
    (and_from (bytes_eq x.suite suite && nat_eq x.kind kind) (bytes_eq x.«package» name)
    (and_from (bytes_eq x.suite suite) (nat_eq x.kind kind) (bytes_same x.suite suite h.at_suite) (eq-eqb x.kind kind h.at_kind))
    (bytes_same x.«package» name h.at_name))
    (bytes_same x.architecture architecture h.at_architecture)

-- ---- kinds by their numbers

kind_back : (kind : Kind) → kind_numbered (kind_number kind) ≡ Some kind
unfolding kind_numbered
kind_back Source = refl
kind_back Binary = refl

number_back : (n : ℕ) (kind : Kind) → kind_numbered n ≡ Some kind → n ≡ kind_number kind
unfolding kind_numbered
number_back n kind e = first (nat_eq n 0) refl e
  where
    second : (b : Bool) → nat_eq n 1 ≡ b → (if b then Some Binary else None) ≡ Some kind → n ≡ kind_number kind
    second true t f = eqb-true n 1 t ∙ ap kind_number (same_Some Binary kind f)
    second false t f = cc

    first : (b : Bool) → nat_eq n 0 ≡ b → (if b then Some Source else if nat_eq n 1 then Some Binary else None) ≡ Some kind → n ≡ kind_number kind
    first true t f = eqb-true n 0 t ∙ ap kind_number (same_Some Source kind f)
    first false t f = second (nat_eq n 1) refl f

-- ---- suites by their codenames

-- an element of a list that is not empty
some_element : {X : Type 0} (xs : List X) (n : ℕ) → n < length xs → X
some_element [] n lt = absurd (omega arith)
some_element (x ∷ xs) n lt = x

codename_is : (suites : List Suite) (n : ℕ) (d : Suite) → n < length suites → codename_at suites n ≡ (get_or suites n d).codename
codename_is suites n d lt = ap (λ o. option_map_or (λ (s : Suite). s.codename) o []) (slice_get-get_or suites n d lt)

-- the suite of a name has it
pub named_suite : (suites : List Suite) (name : List ℕ) (n : ℕ) → suite_named suites name ≡ Some n → (n < length suites) × (name ≡ codename_at suites n)
unfolding suite_named
named_suite [] name n e = cc
named_suite (s ∷ ss) name n e =
    let at = position-Some (λ (x : Suite). bytes_eq x.codename name) (s ∷ ss) n s e in
    (at.0, sym (codename_is (s ∷ ss) n s at.0 ∙ same_bytes (get_or (s ∷ ss) n s).codename name at.1))

module _ (suites : List Suite) (differ : AllPairs (λ s r. s.codename ≢ r.codename) suites) where
  -- a suite is found by its name
  pub suite_back : (n : ℕ) → n < length suites → suite_named suites (codename_at suites n) ≡ Some n
  unfolding suite_named
  suite_back n lt =
      let d = some_element suites n lt in
      let name = codename_at suites n in
      let is = codename_is suites n d lt in
      let first : position_or_len (λ (s : Suite). bytes_eq s.codename name) suites ≡ n =
      position_or_len_is (λ (s : Suite). bytes_eq s.codename name) suites n d (omega (arith, lt))
      (λ k below. false_from_ne_true (bytes_eq (get_or suites k d).codename name) (λ same. differ k n d below lt (same_bytes (get_or suites k d).codename name same ∙ is)))
      (λ _. bytes_same (get_or suites n d).codename name (sym is)) in
      ap (λ k. cond (nat_lt k (length suites)) (Some k) None) first ∙ ap (λ b. cond b (Some n) None) (lt-ltb n (length suites) lt)

  module _ (t : Tables) where
    -- what a row of a shelf shows
    pub on_entry : (key : ShelfKey) (x : ℕ × ItemRow) → key.suite < length suites → is_on suites key x ≡ true → entry_in suites t x ≡ Some (key, item_with key.kind x.1 (refs_in t x.0))
    unfolding entry_with
    on_entry key x lt at =
        let parts = item_parts (codename_at suites key.suite) (kind_number key.kind) key.«package» key.architecture x.1 at in
        let shown : Option ℕ → Option Kind → Option (ShelfKey × shelf.Item) = λ suite kind. option_and_then (λ s. option_map (λ k. standing s (item_with k x.1 (refs_in t x.0))) kind) suite in
        ap (λ o. shown o (kind_numbered x.1.kind)) (ap (suite_named suites) parts.at_suite ∙ suite_back key.suite lt)
        ∙ ap (λ o. shown (Some key.suite) o) (ap kind_numbered parts.at_kind ∙ kind_back key.kind)
        ∙ (λ i. Some (record { suite = key.suite; kind = key.kind; «package» = parts.at_name i; architecture = parts.at_architecture i }, item_with key.kind x.1 (refs_in t x.0)))

    -- a row that shows an item is on the item's shelf
    pub entry_on : (x : ℕ × ItemRow) (e : ShelfKey × shelf.Item) → entry_in suites t x ≡ Some e → (e.0.suite < length suites) × (is_on suites e.0 x ≡ true)
    unfolding entry_with
    entry_on x e is = by_suite (suite_named suites x.1.suite) refl is
      where
        shown : Option ℕ → Option Kind → Option (ShelfKey × shelf.Item)
        shown suite kind = option_and_then (λ s. option_map (λ k. standing s (item_with k x.1 (refs_in t x.0))) kind) suite

        found : (n : ℕ) (k : Kind) → suite_named suites x.1.suite ≡ Some n → kind_numbered x.1.kind ≡ Some k → standing n (item_with k x.1 (refs_in t x.0)) ≡ e → (e.0.suite < length suites) × (is_on suites e.0 x ≡ true)
        found n k s c same =
            let suite = named_suite suites x.1.suite n s in
            subst (λ (z : ShelfKey × shelf.Item). (z.0.suite < length suites) × (is_on suites z.0 x ≡ true)) same (
              suite.0,
              item_from (codename_at suites n) (kind_number k) x.1.«package» x.1.architecture x.1
                  (record { at_suite = suite.1; at_kind = number_back x.1.kind k c; at_name = refl; at_architecture = refl }),
            )

        by_kind : (n : ℕ) → suite_named suites x.1.suite ≡ Some n → (o : Option Kind) → kind_numbered x.1.kind ≡ o → shown (Some n) o ≡ Some e → (e.0.suite < length suites) × (is_on suites e.0 x ≡ true)
        by_kind n s None c f = cc
        by_kind n s (Some k) c f = found n k s c (same_Some _ e f)

        by_suite : (o : Option ℕ) → suite_named suites x.1.suite ≡ o → shown o (kind_numbered x.1.kind) ≡ Some e → (e.0.suite < length suites) × (is_on suites e.0 x ≡ true)
        by_suite None s f = cc
        by_suite (Some n) s f = by_kind n s (kind_numbered x.1.kind) refl f

    abbrev shown_by : Numbered ItemRow → List (ShelfKey × shelf.Item)
    shown_by xs = filter_map (entry_in suites t) xs

    -- what is shown on a shelf is what the row of the shelf shows
    pub find_shown : (key : ShelfKey) → key.suite < length suites → (xs : Numbered ItemRow)
        → keyed.find key_order key (shown_by xs) ≡ option_map (λ x. item_with key.kind x.1 (refs_in t x.0)) (find (is_on suites key) xs)
    find_shown key lt [] = refl
    find_shown key lt (x ∷ xs) = go (is_on suites key x) refl (find_shown key lt xs)
      where
        item : ℕ × ItemRow → shelf.Item
        item y = item_with key.kind y.1 (refs_in t y.0)

        Same : Option (ℕ × ItemRow) → Type 0
        Same f = keyed.find key_order key (cons_option (entry_in suites t x) (shown_by xs)) ≡ option_map item f

        other : (o : Option (ShelfKey × shelf.Item)) → entry_in suites t x ≡ o → is_on suites key x ≡ false
            → keyed.find key_order key (cons_option o (shown_by xs)) ≡ keyed.find key_order key (shown_by xs)
        other None is off = refl
        other (Some e) is off = ap (λ b. cond b (Some e.1) (keyed.find key_order key (shown_by xs))) (false_from_ne_true (eq_by_cmp key_order key e.0) (λ tied.
            both_ways (is_on suites key x) off (subst (λ (k : ShelfKey). is_on suites k x ≡ true) (sym (same_keys key_order-IsAntisymmetric key e.0 tied)) (entry_on x e is).1)))

        go : (b : Bool) → is_on suites key x ≡ b → keyed.find key_order key (shown_by xs) ≡ option_map item (find (is_on suites key) xs) → Same (cond b (Some x) (find (is_on suites key) xs))
        go true at more =
            ap (λ o. keyed.find key_order key (cons_option o (shown_by xs))) (on_entry key x lt at)
            ∙ ap (λ b. cond b (Some (item x)) (keyed.find key_order key (shown_by xs))) ((eq_by_cmp_equiv key_order_total).refl key)
        go false off more = other (entry_in suites t x) refl off ∙ more

    -- nothing is shown beyond the suites
    pub find_beyond : (key : ShelfKey) → length suites ≤ key.suite → (xs : Numbered ItemRow) → keyed.find key_order key (shown_by xs) ≡ None
    find_beyond key beyond [] = refl
    find_beyond key beyond (x ∷ xs) = other (entry_in suites t x) refl ∙ find_beyond key beyond xs
      where
        other : (o : Option (ShelfKey × shelf.Item)) → entry_in suites t x ≡ o → keyed.find key_order key (cons_option o (shown_by xs)) ≡ keyed.find key_order key (shown_by xs)
        other None is = refl
        other (Some e) is = ap (λ b. cond b (Some e.1) (keyed.find key_order key (shown_by xs))) (false_from_ne_true (eq_by_cmp key_order key e.0) (λ tied.
            let within = (entry_on x e is).0 in
            let same : key.suite ≡ e.0.suite = ap (λ (k : ShelfKey). k.suite) (same_keys key_order-IsAntisymmetric key e.0 tied) in
            absurd (omega (arith, within, same, beyond))))

-- ---- the items of rows

files_back : (id n : ℕ) (fs : List PoolFile) → map file_in (map (λ (f : ℕ × PoolFile). record { item = id; number = f.0; path = f.1.path; print = f.1.print }) (enumerate_from n fs)) ≡ fs
files_back id n [] = refl
files_back id n (f ∷ fs) = ap (λ gs. f ∷ gs) (files_back id (n + 1) fs)

-- a row of a shelf, with the rows of its files, is the item that stands there
item_back : (suites : List Suite) (key : ShelfKey) (id : ℕ) (x : ItemRow) (refs : List Ref) (item : shelf.Item) → IsAtHome (key, item)
    → ◌≡◌ {A = ItemRow × List Ref} (x, refs) (shown_row suites key id item) → item_with key.kind x refs ≡ item
unfolding refs_for
item_back suites key id x refs item own e =
    let row : x ≡ item_row suites (key, item) = ap (λ (p : ItemRow × List Ref). p.0) e in
    let keys : key ≡ (standing key.suite item).0 = ap (λ (p : ShelfKey × shelf.Item). p.0) own in
    let kind : key.kind ≡ item.kind = ap (λ (k : ShelfKey). k.kind) keys in
    let name : x.«package» ≡ item.«package» = ap (λ (r : ItemRow). r.«package») row ∙ ap (λ (k : ShelfKey). k.«package») keys in
    let architecture : x.architecture ≡ item.architecture = ap (λ (r : ItemRow). r.architecture) row ∙ ap (λ (k : ShelfKey). k.architecture) keys in
    let version : x.version ≡ item.version = ap (λ (r : ItemRow). r.version) row in
    let component : x.component ≡ item.component = ap (λ (r : ItemRow). r.component) row in
    let source : x.source ≡ item.source = ap (λ (r : ItemRow). r.source) row in
    let paragraph : x.paragraph ≡ item.paragraph = ap (λ (r : ItemRow). r.paragraph) row in
    let files : map file_in refs ≡ item.files = ap (λ (p : ItemRow × List Ref). map file_in p.1) e ∙ files_back id 1 item.files in
    λ i. record {
      kind = kind i;
      «package» = name i;
      architecture = architecture i;
      version = version i;
      component = component i;
      source = source i;
      paragraph = paragraph i;
      files = files i;
    }

-- ---- what the rows show

module _ (t : Tables) (suites : List Suite) (shown : ShelvesValue) (h : AreItems t suites shown) (home : All IsAtHome (entries shown)) (differ : AllPairs (λ s r. s.codename ≢ r.codename) suites) (key : ShelfKey) where
  stands : (f : Option (ℕ × ItemRow)) (a : Option shelf.Item) → get shown key ≡ a
      → option_map (kept.shown_in t) f ≡ option_and_then (λ x. option_map (shown_row suites key x.0) a) f
      → option_map (λ _. true) f ≡ option_map (λ _. true) a
      → option_map (λ x. item_with key.kind x.1 (refs_in t x.0)) f ≡ a
  stands None None is are all = refl
  stands None (Some item) is are all = cc
  stands (Some x) None is are all = cc
  stands (Some x) (Some item) is are all =
      ap Some (item_back suites key x.0 x.1 (refs_in t x.0) item (all_at IsAtHome (entries shown) (key, item) home (entry_shown shown key item is)) (same_Some _ _ are))

  not_within : length suites ≤ key.suite → (a : Option shelf.Item) → get shown key ≡ a → None ≡ a
  not_within beyond None e = refl
  not_within beyond (Some item) e = let within = h.within key item e in absurd (omega (arith, within, beyond))

  shown_shelf : get (shown_in suites t) key ≡ get shown key
  unfolding shown_in
  shown_shelf = get-from_entries key_order_total (filter_map (entry_in suites t) t.items) key ∙ elim (cases_lt key.suite (length suites)) [
    | inl below ↦ find_shown suites differ t key below t.items ∙ stands (find (is_on suites key) t.items) (get shown key) refl (h.are key below) (h.all key below)
    | inr beyond ↦ find_beyond suites differ t key (omega arith) t.items ∙ not_within (omega arith) (get shown key) refl
  ]

pub shown_is : (t : Tables) (suites : List Suite) (shown : ShelvesValue) → AreItems t suites shown → All IsAtHome (entries shown) → AllPairs (λ s r. s.codename ≢ r.codename) suites → shown_in suites t ≡ shown
shown_is t suites shown h home differ = same_map key_order_total key_order-IsAntisymmetric (shown_in suites t) shown (shown_shelf t suites shown h home differ)

-- ---- the shelves so far, and the rows that are left

module _ (suites : List Suite) (t : Tables) where
  -- at first all rows are left
  pub all_left : (so_far : ShelvesValue) (left : Numbered ItemRow) → so_far ≡ keyed.empty → left ≡ t.items → AreLeft suites t so_far left
  unfolding shown_in
  all_left so_far left none all key =
      ap (λ (m : ShelvesValue). option_or (get m key) (keyed.find key_order key (filter_map (entry_in suites t) left))) none
      ∙ ap (λ o. option_or o (keyed.find key_order key (filter_map (entry_in suites t) left))) (keyed.get-empty key_order key)
      ∙ ap (λ xs. keyed.find key_order key (filter_map (entry_in suites t) xs)) all
      ∙ sym (get-from_entries key_order_total (filter_map (entry_in suites t) t.items) key)

  -- one row fewer
  pub one_less : (so_far now : ShelvesValue) (x : ℕ × ItemRow) (rest left : Numbered ItemRow) → PutsRow suites x.1 (refs_in t x.0) so_far now → left ≡ x ∷ rest → AreLeft suites t so_far left → AreLeft suites t now rest
  one_less so_far now x rest left puts next h key =
      ap (λ (m : ShelvesValue). option_or (get m key) later) puts.put.made
      ∙ ap (λ o. option_or o later) (get-insert key_order_total so_far puts.entry.0 puts.entry.1 key)
      ∙ go (eq_by_cmp key_order key puts.entry.0) refl
      ∙ sym (ap (λ o. option_or (get so_far key) (keyed.find key_order key (cons_option o (filter_map (entry_in suites t) rest)))) puts.is)
      ∙ sym (ap (λ xs. option_or (get so_far key) (keyed.find key_order key (filter_map (entry_in suites t) xs))) next)
      ∙ h key
    where
      later : Option shelf.Item
      later = keyed.find key_order key (filter_map (entry_in suites t) rest)

      go : (b : Bool) → eq_by_cmp key_order key puts.entry.0 ≡ b → option_or (cond b (Some puts.entry.1) (get so_far key)) later
          ≡ option_or (get so_far key) (cond (eq_by_cmp key_order key puts.entry.0) (Some puts.entry.1) later)
      go true tied =
          sym (ap (λ o. option_or o (cond (eq_by_cmp key_order key puts.entry.0) (Some puts.entry.1) later)) (ap (get so_far) (same_keys key_order-IsAntisymmetric key puts.entry.0 tied) ∙ puts.put.free)
          ∙ ap (λ b. cond b (Some puts.entry.1) later) tied)
      go false apart = sym (ap (λ b. option_or (get so_far key) (cond b (Some puts.entry.1) later)) apart)

  -- at last no row is left
  pub none_left : (so_far : ShelvesValue) (left : Numbered ItemRow) → length left ≡ 0 → AreLeft suites t so_far left → so_far ≡ shown_in suites t
  none_left so_far [] none h = same_map key_order_total key_order-IsAntisymmetric so_far (shown_in suites t) (λ key. sym (option_or_none (get so_far key)) ∙ h key)
  none_left so_far (x ∷ left) none h = absurd (omega (arith, none))

-- ---- an item that comes to an empty shelf

module _ (shelves : ShelvesValue) (sound : AreSound shelves) (files : List PoolFile) (clear : list_any (may_not_join (pool shelves) files) files ≡ false) where
  -- what is known of each of the files
  joins : (f : PoolFile) → Contains files f → (is_taken (pool shelves) f ≡ false) × (list_any (clash f) files ≡ false)
  unfolding may_not_join
  joins f inside = neither (is_taken (pool shelves) f) (list_any (clash f) files) (any_false (may_not_join (pool shelves) files) files f clear inside)

  pool_agrees : (f : PoolFile) (print : Print) → Contains files f → Contains (files_of (values shelves)) (f.path, print) → print ≡ f.print
  unfolding is_taken
  pool_agrees f print inside shown =
      let there = get-pool_of f.path (files_of (values shelves)) print sound.agreed shown in
      same_print-equal print f.print (passed (same_print print f.print)
      (sym (ap (λ o. option_map_or (λ p. not (same_print p f.print)) o false) there) ∙ (joins f inside).0))

  files_agree : (f g : PoolFile) → Contains files f → Contains files g → f.path ≡ g.path → f.print ≡ g.print
  unfolding clash
  files_agree f g one other same =
      same_print-equal f.print g.print (passed (same_print f.print g.print)
      (sym (ap (λ b. b && not (same_print f.print g.print)) (bytes_same f.path g.path same)) ∙ any_false (clash f) files g (joins f one).1 other))

  file_of_pair : (path : List ℕ) (print : Print) → Contains (map pair_of files ++ []) (path, print) → (f : PoolFile) × Contains files f × (pair_of f ≡ (path, print))
  file_of_pair path print h = elim (Contains-append_cases (map pair_of files) [] (path, print) h) [
    | inl one ↦ from_map pair_of (path, print) files one
    | inr none ↦ no_member (path, print) none
  ]

  shown_given : (path : List ℕ) (a b : Print) → Contains (files_of (values shelves)) (path, a) → Contains (map pair_of files ++ []) (path, b) → a ≡ b
  shown_given path a b shown given =
      let f = file_of_pair path b given in
      pool_agrees f.0 a f.1 (subst (λ p. Contains (files_of (values shelves)) (p, a)) (sym (ap (λ (x : List ℕ × Print). x.0) f.2)) shown) ∙ ap (λ (x : List ℕ × Print). x.1) f.2

  both_given : (path : List ℕ) (a b : Print) → Contains (map pair_of files ++ []) (path, a) → Contains (map pair_of files ++ []) (path, b) → a ≡ b
  both_given path a b one other =
      let f = file_of_pair path a one in
      let g = file_of_pair path b other in
      sym (ap (λ (x : List ℕ × Print). x.1) f.2)
      ∙ files_agree f.0 g.0 f.1 g.1 (ap (λ (x : List ℕ × Print). x.0) f.2 ∙ sym (ap (λ (x : List ℕ × Print). x.0) g.2))
      ∙ ap (λ (x : List ℕ × Print). x.1) g.2

  pub all_agree : AreAgreed (files_of (values shelves) ++ (map pair_of files ++ []))
  all_agree path a b p q =
      elim (Contains-append_cases (files_of (values shelves)) (map pair_of files ++ []) (path, a) p) [
        | inl shown ↦ elim (Contains-append_cases (files_of (values shelves)) (map pair_of files ++ []) (path, b) q) [
          | inl also ↦ sound.agreed path a b shown also
          | inr new ↦ shown_given path a b shown new
        ]
        | inr new ↦ elim (Contains-append_cases (files_of (values shelves)) (map pair_of files ++ []) (path, b) q) [
          | inl shown ↦ sym (shown_given path b a shown new)
          | inr also ↦ both_given path a b new also
        ]
      ]

-- an item whose files clash with none may join the shelves
pub may_join : (shelves : ShelvesValue) (suite : ℕ) (item : shelf.Item) → AreSound shelves → list_any (may_not_join (pool shelves) item.files) item.files ≡ false
    → MayJoin shelves (map (standing suite) (item ∷ []))
may_join shelves suite item sound clear = record {
  apart = λ i j d lt within. absurd (omega (arith, lt, within));
  agreed = all_agree shelves sound item.files clear;
}

-- a row of a suite and of a kind puts its item on its shelf
pub row_puts : (suites : List Suite) (x : ItemRow) (refs : List Ref) (old now : ShelvesValue) (suite : ℕ) (kind : Kind) (item : shelf.Item)
    → suite_named suites x.suite ≡ Some suite → kind_numbered x.kind ≡ Some kind → item ≡ item_with kind x refs → IsPut old now (standing suite item) → PutsRow suites x refs old now
unfolding entry_with
row_puts suites x refs old now suite kind item named numbered is put = record {
  entry = standing suite (item_with kind x refs);
  is =
      ap (λ o. option_and_then (λ s. option_map (λ k. standing s (item_with k x refs)) (kind_numbered x.kind)) o) named
      ∙ ap (λ o. option_map (λ k. standing suite (item_with k x refs)) o) numbered;
  put = subst (λ (y : shelf.Item). IsPut old now (standing suite y)) is put;
}

-- ---- rows that may not stand on a shelf

module _ (suites : List Suite) (x : ItemRow) (refs : List Ref) (old : ShelvesValue) where
  abbrev shown_as : Option ℕ → Option Kind → Option (ShelfKey × shelf.Item)
  shown_as suite kind = option_and_then (λ s. option_map (λ k. standing s (item_with k x refs)) kind) suite

  -- a row of no suite
  pub no_suite : suite_named suites x.suite ≡ None → ¬ MayStand suites x refs old
  unfolding entry_with
  no_suite none may = let shows_none : Some may.entry ≡ None = sym may.is ∙ ap (λ o. shown_as o (kind_numbered x.kind)) none in cc

  -- a row of no kind
  pub no_kind : (suite : ℕ) → suite_named suites x.suite ≡ Some suite → kind_numbered x.kind ≡ None → ¬ MayStand suites x refs old
  unfolding entry_with
  no_kind suite named none may =
      let shows_none : Some may.entry ≡ None = sym may.is ∙ ap (λ o. shown_as o (kind_numbered x.kind)) named ∙ ap (λ o. shown_as (Some suite) o) none in
      cc

  -- a row whose item may not be put
  pub item_refused : (suite : ℕ) (kind : Kind) (item : shelf.Item) → suite_named suites x.suite ≡ Some suite → kind_numbered x.kind ≡ Some kind → item ≡ item_with kind x refs
      → ¬ MayBePut old (standing suite item) → ¬ MayStand suites x refs old
  unfolding entry_with
  item_refused suite kind item named numbered is refused may =
      let entry : may.entry ≡ standing suite (item_with kind x refs) =
      same_Some _ _ (sym may.is ∙ ap (λ o. shown_as o (kind_numbered x.kind)) named ∙ ap (λ o. shown_as (Some suite) o) numbered) in
      refused (subst (λ (y : shelf.Item). MayBePut old (standing suite y)) (sym is) (subst (MayBePut old) entry may.may))
