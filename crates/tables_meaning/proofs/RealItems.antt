-- The rows of items, of their files and of the pool can be held, and the items can be read.
use Rattle.std.proofs.Common.{◌≡◌, ℕ, ◌+◌, ◌<◌, true, false, List, [], ◌∷◌, filter, find, length, Option, Some, None, All, IsTrue, nat_eq, bytes_eq, refl, sym, ap, subst, ◌∙◌, inl, inr, slice_get}
use Rattle.std.specs.Prelude.{Contains}
use Rattle.std.specs.FinMap.{entries, get, get-from_entries, values}
use Rattle.std.specs.List.{enumerate_from, list_any}
use Rattle.std.specs.Option.{option_and_then, option_map, option_map_or}
use Rattle.std.specs.Str.{is_utf8}
use Rattle.std.proofs.Math.Logic.{∥∥₁_elim, ∥∥₁_map}
use Rattle.std.proofs.Props.{props}
use Rattle.std.proofs.lemmas.Bool.{both_ways, eq-eqb, eqb-true}
use Rattle.std.proofs.lemmas.List.Elements.{recursion_from_All}
use Rattle.std.proofs.lemmas.List.Sorted.{Contains-permutation, IsPermutation-sym}
use Rattle.std.proofs.lemmas.Option.{same_Some}
use Rattle.std.proofs.lemmas.Slice.Eq.{bytes_eq-Decides}
use Rattle.std.proofs.lemmas.Str.{IsUtf8-from_is_utf8, is_utf8-from_IsUtf8}
use Rattle.sqlite_keyed.proofs.SortLemmas.{IsPermutation-sort_by}
use Rattle.rules.specs.declared.suite.Suite.{Suite}
use Rattle.sums.proofs.Members.{all_at, all_from, any_some, contains_map, from_map, here, no_member, there, which}
use Rattle.sums.specs.Prints.{print as print_of}
use Rattle.sums.specs.declared.print.Print.{Print}
use Rattle.suites.proofs.FileMembers.{entry_shown, files_contain, item_of_file, shown_value, value_shown}
use Rattle.suites.proofs.ListMembers.{to_filter}
use Rattle.suites.proofs.PoolLookups.{find-Contains, get-pool_of}
use Rattle.suites.specs.Items.{IsAtHome, standing}
use Rattle.suites.specs.KeyLemmas.{text_order_total}
use Rattle.suites.specs.Keys.{kind_number}
use Rattle.suites.specs.Pool.{files_of, pair_of}
use Rattle.suites.specs.Shelves.{AreSound, ShelvesValue, pool}
use Rattle.suites.specs.Told.{AreTold}
use Rattle.suites.specs.declared.item.Item as shelf
use Rattle.suites.specs.declared.item.PoolFile.{PoolFile}
use Rattle.suites.specs.declared.key.ShelfKey.{ShelfKey}
use Rattle.suites.specs.Codenames.{codename_at}
use Rattle.tables.specs.Files.{is_file_at}
use Rattle.tables.specs.Items.{is_item}
use Rattle.tables.specs.Real.{IsRealFile, IsRealItem, IsRealPrint, IsRealRef}
use Rattle.tables.specs.Refs.{is_ref_of}
use Rattle.tables.specs.Rows.{Tables, rows_of}
use Rattle.tables.specs.declared.rows.BodyRow.{BodyRow}
use Rattle.tables.specs.declared.rows.File.{File}
use Rattle.tables.specs.declared.rows.ItemRow.{ItemRow}
use Rattle.tables.specs.declared.rows.Ref.{Ref}
use Rattle.vers.specs.Syntax.{IsVersion}
use Rattle.tables_meaning.specs.Kept.{AreBodies, AreFiles, AreItems, AreReadable, IsReadable, bytes_of, has_body, is_on, item_row, print_at, ref_order, refs_for, refs_in, shown_row}
use Rattle.tables_meaning.specs.Kept as kept
use Rattle.tables_meaning.proofs.AsciiItems.{IsPlainItem, shown_plain, sliced}
use Rattle.tables_meaning.proofs.AsciiLemmas.{AreAscii, ascii-IsUtf8, version_ascii}
use Rattle.tables_meaning.proofs.BodyLemmas.{apart_same, found, none_found, row_of_body}
use Rattle.tables_meaning.proofs.NumberOrders.{ref_order_total}
use Rattle.indices.proofs.Paths.{HasNames}
use Rattle.indices.proofs.Pairs.{pairs_unmap}
use Rattle.tables_meaning.proofs.Searches.{all_in_rows}
use Rattle.tables_meaning.proofs.ShownLemmas.{item_from, item_parts}
use Rattle.tables_meaning.proofs.SignedLemmas.{real_print}

-- ---- prints of bodies

module _ (t : Tables) (bodies : AreBodies t) where
  body_print : (x : ℕ × BodyRow) → Contains t.bodies x → x.1.print ≡ Some (print_of (bytes_of t x.0))
  body_print x at = all_at (λ y. y.1.print ≡ Some (print_of (bytes_of t y.0))) t.bodies x bodies.whole at

  -- a print that a body has
  print_real : (id : ℕ) (p : Print) → print_at t id ≡ Some p → IsRealPrint p
  print_real id p e = go (find (λ x. nat_eq x.0 id) t.bodies) refl e
    where
      go : (o : Option (ℕ × BodyRow)) → find (λ x. nat_eq x.0 id) t.bodies ≡ o → option_and_then (λ (x : ℕ × BodyRow). x.1.print) o ≡ Some p → IsRealPrint p
      go None is h = cc
      go (Some x) is h = subst IsRealPrint (same_Some _ p (sym (body_print x (found (λ (y : ℕ × BodyRow). nat_eq y.0 id) t.bodies x is).within) ∙ h)) (real_print (bytes_of t x.0))

  -- a body that is there has a print
  print_there : (id : ℕ) → has_body t id ≡ true → (p : Print) × (print_at t id ≡ Some p)
  print_there id there = go (find (λ x. nat_eq x.0 id) t.bodies) refl
    where
      go : (o : Option (ℕ × BodyRow)) → find (λ x. nat_eq x.0 id) t.bodies ≡ o → (p : Print) × (option_and_then (λ (x : ℕ × BodyRow). x.1.print) o ≡ Some p)
      go None is =
          let row = row_of_body t id there in
          absurd (both_ways (nat_eq row.body.0 id) (none_found (λ (y : ℕ × BodyRow). nat_eq y.0 id) t.bodies is row.body row.within) (eq-eqb row.body.0 id row.number))
      go (Some x) is = (print_of (bytes_of t x.0), body_print x (found (λ (y : ℕ × BodyRow). nat_eq y.0 id) t.bodies x is).within)

-- ---- the shelf of a row

-- what stands on the shelf of a row is the item of the row, with the files of its rows
record IsShownBy (t : Tables) (suites : List Suite) (shown : ShelvesValue) (key : ShelfKey) (x : ℕ × ItemRow) : Type 0 where
  item : shelf.Item
  stands : get shown key ≡ Some item
  row : x.1 ≡ item_row suites (key, item)
  refs : refs_in t x.0 ≡ refs_for x.0 item

-- two rows on one shelf are of one shelf
pub both_on : (suites : List Suite) (key : ShelfKey) (x y : ℕ × ItemRow) → is_on suites key x ≡ true → is_on suites key y ≡ true → is_item x.1.suite x.1.kind x.1.«package» x.1.architecture y.1 ≡ true
both_on suites key x y at too =
    let first = item_parts (codename_at suites key.suite) (kind_number key.kind) key.«package» key.architecture x.1 at in
    let second = item_parts (codename_at suites key.suite) (kind_number key.kind) key.«package» key.architecture y.1 too in
    item_from x.1.suite x.1.kind x.1.«package» x.1.architecture y.1 (record {
      at_suite = second.at_suite ∙ sym first.at_suite;
      at_kind = second.at_kind ∙ sym first.at_kind;
      at_name = second.at_name ∙ sym first.at_name;
      at_architecture = second.at_architecture ∙ sym first.at_architecture;
    })

module _ (t : Tables) (suites : List Suite) (shown : ShelvesValue) (items : AreItems t suites shown) where
  one_on : (key : ShelfKey) (x y : ℕ × ItemRow) → Contains t.items x → Contains t.items y → is_on suites key x ≡ true → is_on suites key y ≡ true → y ≡ x
  one_on key x y at too on on_too =
      apart_same (λ a b. is_item a.1.suite a.1.kind a.1.«package» a.1.architecture b.1 ≡ false) t.items
      (pairs_unmap (λ (a b : ItemRow). is_item a.suite a.kind a.«package» a.architecture b ≡ false) (λ (z : ℕ × ItemRow). z.1) t.items items.apart)
      y x too at
      (λ apart. both_ways (is_item y.1.suite y.1.kind y.1.«package» y.1.architecture x.1) apart (both_on suites key y x on_too on))
      (λ apart. both_ways (is_item x.1.suite x.1.kind x.1.«package» x.1.architecture y.1) apart (both_on suites key x y on on_too))

  row_shown : (key : ShelfKey) → key.suite < length suites → (x : ℕ × ItemRow) → Contains t.items x → is_on suites key x ≡ true → IsShownBy t suites shown key x
  row_shown key lt x at on = go (find (is_on suites key) t.items) refl (items.are key lt)
    where
      of_shelf : (o : Option shelf.Item) → get shown key ≡ o → Some (kept.shown_in t x) ≡ option_map (shown_row suites key x.0) o → IsShownBy t suites shown key x
      of_shelf None is e = cc
      of_shelf (Some item) is e =
          let both = same_Some (kept.shown_in t x) (shown_row suites key x.0 item) e in
          record { item = item; stands = is; row = ap (λ (p : ItemRow × List Ref). p.0) both; refs = ap (λ (p : ItemRow × List Ref). p.1) both }

      go : (o : Option (ℕ × ItemRow)) → find (is_on suites key) t.items ≡ o → option_map (kept.shown_in t) o ≡ option_and_then (λ z. option_map (shown_row suites key z.0) (get shown key)) o → IsShownBy t suites shown key x
      go None is e = absurd (both_ways (is_on suites key x) (none_found (is_on suites key) t.items is x at) on)
      go (Some y) is e =
          let it = found (is_on suites key) t.items y is in
          let same : y ≡ x = one_on key x y at it.within on it.passes in
          of_shelf (get shown key) refl (subst (λ (z : ℕ × ItemRow). Some (kept.shown_in t z) ≡ option_map (shown_row suites key z.0) (get shown key)) same e)

-- ---- rows of items

codename_ascii : (suites : List Suite) → ((s : Suite) → Contains suites s → HasNames AreAscii s) → (n : ℕ) → AreAscii (codename_at suites n)
codename_ascii suites names n = go (slice_get suites n) refl
  where
    go : (o : Option Suite) → slice_get suites n ≡ o → AreAscii (option_map_or (λ s. s.codename) o [])
    go None is = refl
    go (Some s) is = (names s (sliced suites n s is)).codename

-- what is known of the row of an item
abbrev IsPlainRow : ItemRow → Type 0
IsPlainRow x = AreAscii x.suite × AreAscii x.«package» × AreAscii x.architecture × IsVersion x.version × AreAscii x.component × AreAscii x.source × (is_utf8 x.paragraph ≡ true)

-- what is known of the row of a file
abbrev IsPlainRef : Ref → Type 0
IsPlainRef r = AreAscii r.path × (length r.print.md5 ≡ 16) × (length r.print.sha1 ≡ 20) × (length r.print.sha256 ≡ 32)

numbered_member : (n : ℕ) (fs : List PoolFile) (f : ℕ × PoolFile) → Contains (enumerate_from n fs) f → Contains fs f.1
numbered_member n [] f at = no_member f at
numbered_member n (g ∷ fs) f at = elim (which (n, g) f (enumerate_from (n + 1) fs) at) [
  | inl same ↦ subst (Contains (g ∷ fs)) (ap (λ (p : ℕ × PoolFile). p.1) same) (here g fs)
  | inr rest ↦ there g f.1 fs (numbered_member (n + 1) fs f rest)
]

file_of_ref : (id : ℕ) (item : shelf.Item) (r : Ref) → Contains (refs_for id item) r → (f : PoolFile) × Contains item.files f × (f.path ≡ r.path) × (f.print ≡ r.print)
unfolding refs_for
file_of_ref id item r at =
    let from = from_map (λ (f : ℕ × PoolFile). record { item = id; number = f.0; path = f.1.path; print = f.1.print }) r (enumerate_from 1 item.files) at in
    (from.0.1, numbered_member 1 item.files from.0 from.1, ap (λ (s : Ref). s.path) from.2, ap (λ (s : Ref). s.print) from.2)

module _ (t : Tables) (suites : List Suite) (shown : ShelvesValue) (names : (s : Suite) → Contains suites s → HasNames AreAscii s) (sound : AreSound shown) (told : AreTold suites shown)
    (bodies : AreBodies t) (items : AreItems t suites shown) (files : AreFiles t shown) where
  item_plain : (key : ShelfKey) (item : shelf.Item) → get shown key ≡ Some item → IsPlainItem item
  item_plain key item is = shown_plain suites names shown told (key, item) (entry_shown shown key item is)

  row_plain : (x : ℕ × ItemRow) (key : ShelfKey) → IsShownBy t suites shown key x → IsPlainRow x.1
  row_plain x key is =
      let plain = item_plain key is.item is.stands in
      let home : key ≡ (standing key.suite is.item).0 = ap (λ (e : ShelfKey × shelf.Item). e.0) (all_at IsAtHome (entries shown) (key, is.item) sound.at_home (entry_shown shown key is.item is.stands)) in
      subst IsPlainRow (sym is.row) (
        codename_ascii suites names key.suite,
        subst AreAscii (sym (ap (λ (k : ShelfKey). k.«package») home)) plain.named,
        subst AreAscii (sym (ap (λ (k : ShelfKey). k.architecture) home)) plain.architecture,
        plain.is_version,
        plain.component,
        plain.source,
        is_utf8-from_IsUtf8 is.item.paragraph plain.paragraph,
      )

  -- a row of an item, and the rows of its files
  on_shelf : (x : ℕ × ItemRow) → Contains t.items x → ∥ ((key : ShelfKey) × IsShownBy t suites shown key x) ∥₁
  on_shelf x at = ∥∥₁_map (all_at (λ y. ∥ ((key : ShelfKey) × (key.suite < length suites) × IsTrue (is_on suites key y)) ∥₁) t.items x items.rows at)
      (λ key. (key.0, row_shown t suites shown items key.0 key.1 x at key.2))

  plain_row : (x : ℕ × ItemRow) → Contains t.items x → IsPlainRow x.1
  plain_row x at = ∥∥₁_elim (on_shelf x at) (hlevel props) (λ on. row_plain x on.0 on.1)

  pub real_items : All IsRealItem (rows_of t.items)
  real_items = all_in_rows IsRealItem t.items (recursion_from_All (λ x. IsRealItem x.1) t.items (all_from (λ x. IsRealItem x.1) t.items (λ x at.
      let plain = plain_row x at in
      record {
        suite = ascii-IsUtf8 x.1.suite plain.0;
        named = ascii-IsUtf8 x.1.«package» plain.1;
        architecture = ascii-IsUtf8 x.1.architecture plain.2;
        version = ascii-IsUtf8 x.1.version (version_ascii x.1.version plain.3);
        component = ascii-IsUtf8 x.1.component plain.4;
        source = ascii-IsUtf8 x.1.source plain.5;
      })))

  pub readable_items : AreReadable t
  readable_items = all_in_rows IsReadable t.items (recursion_from_All (λ x. IsReadable x.1) t.items (all_from (λ x. IsReadable x.1) t.items (λ x at.
      let plain = plain_row x at in record { version = plain.3; paragraph = IsUtf8-from_is_utf8 x.1.paragraph plain.6 })))

  -- ---- rows of their files

  -- the print of a file of an item that is shown is that of a body
  shown_print : (key : ShelfKey) (item : shelf.Item) → get shown key ≡ Some item → (f : PoolFile) → Contains item.files f → IsRealPrint f.print
  shown_print key item is f at = go (find (is_file_at f.path) (rows_of t.files)) (files.are f.path ∙ there_it_is)
    where
      there_it_is : get (pool shown) f.path ≡ Some f.print
      there_it_is = get-pool_of f.path (files_of (values shown)) f.print sound.agreed
          (files_contain (values shown) item (f.path, f.print) (value_shown shown key item is) (contains_map pair_of f item.files at))

      go : (o : Option File) → option_and_then (λ g. print_at t g.body) o ≡ Some f.print → IsRealPrint f.print
      go None e = cc
      go (Some g) e = print_real t bodies g.body f.print e

  ref_plain : (r : Ref) (x : ℕ × ItemRow) (key : ShelfKey) → IsShownBy t suites shown key x → Contains (refs_in t x.0) r → IsPlainRef r
  ref_plain r x key is at =
      let file = file_of_ref x.0 is.item r (subst (λ rs. Contains rs r) is.refs at) in
      let print : IsRealPrint r.print = subst IsRealPrint file.3 (shown_print key is.item is.stands file.0 file.1) in
      (subst AreAscii file.2 ((item_plain key is.item is.stands).paths file.0 file.1), print.md5, print.sha1, print.sha256)

  plain_ref : (r : Ref) → Contains (rows_of t.refs) r → IsPlainRef r
  plain_ref r at =
      let owner = any_some (λ (x : ℕ × ItemRow). nat_eq x.0 r.item) t.items (all_at (λ (s : Ref). IsTrue (list_any (λ x. nat_eq x.0 s.item) t.items)) (rows_of t.refs) r items.owned at) in
      let x = owner.0 in
      let of_item = filter (is_ref_of x.0) (rows_of t.refs) in
      let its : Contains (refs_in t x.0) r =
      Contains-permutation of_item (refs_in t x.0) r (IsPermutation-sym (refs_in t x.0) of_item (IsPermutation-sort_by ref_order ref_order_total of_item))
      (to_filter (is_ref_of x.0) r (rows_of t.refs) at (eq-eqb r.item x.0 (sym (eqb-true x.0 r.item owner.2)))) in
      ∥∥₁_elim (on_shelf x owner.1) (hlevel props) (λ on. ref_plain r x on.0 on.1 its)

  pub real_refs : All IsRealRef (rows_of t.refs)
  real_refs = all_from IsRealRef (rows_of t.refs) (λ r at.
      let plain = plain_ref r at in
      record { path = ascii-IsUtf8 r.path plain.0; print = record { md5 = plain.1; sha1 = plain.2; sha256 = plain.3 } })

  -- ---- rows of the pool's files

  -- a path of the pool is that of a file of an item that is shown
  pool_ascii : (path : List ℕ) (p : Print) → get (pool shown) path ≡ Some p → AreAscii path
  pool_ascii path p e =
      let among = find-Contains path (files_of (values shown)) p (sym (get-from_entries text_order_total (files_of (values shown)) path) ∙ e) in
      let item = item_of_file (values shown) (path, p) among in
      let file = from_map pair_of (path, p) item.0.files item.2 in
      let on = shown_value shown item.0 item.1 in
      subst AreAscii (ap (λ (f : List ℕ × Print). f.0) file.2) ((item_plain on.0 item.0 on.1).paths file.0 file.1)

  file_real : (f : File) → Contains (rows_of t.files) f → IsRealFile f
  file_real f at = ascii-IsUtf8 f.path (go (find (is_file_at f.path) (rows_of t.files)) refl (files.are f.path))
    where
      go : (o : Option File) → find (is_file_at f.path) (rows_of t.files) ≡ o → option_and_then (λ g. print_at t g.body) o ≡ get (pool shown) f.path → AreAscii f.path
      go None is e = absurd (both_ways (bytes_eq f.path f.path) (none_found (is_file_at f.path) (rows_of t.files) is f at) ((bytes_eq-Decides f.path f.path).1 refl))
      go (Some g) is e =
          let print = print_there t bodies g.body (all_at (λ (h : File). IsTrue (has_body t h.body)) (rows_of t.files) g files.bodies (found (is_file_at f.path) (rows_of t.files) g is).within) in
          pool_ascii f.path print.0 (sym e ∙ print.1)

  pub real_files : All IsRealFile (rows_of t.files)
  real_files = all_from IsRealFile (rows_of t.files) file_real
