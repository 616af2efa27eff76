-- The files of the pool as a list: what is among them; they agree, and suites name no other files.
use Rattle.std.proofs.Common.{◌≡◌, ℕ, Bool, true, false, ◌||◌, cond, List, [], ◌∷◌, map, filter, Some, refl, sym, ap, subst, ◌∙◌, bytes_eq}
use Rattle.std.specs.Prelude.{Contains, is_some, nat_eq, String}
use Rattle.std.specs.declared.alloc.Global.{Global}
use Rattle.std.specs.BTreeMap.{BTreeMap, IsOrdered}
use Rattle.std.specs.FinMap.{entries, entries_sorted, find, from_entries, get, get-entries, get-from_entries, values, contains_key-keys, same_map}
use Rattle.std.specs.List.{list_any}
use Rattle.std.specs.List.Sorted.{IsStrictlySortedBy}
use Rattle.std.specs.Map.{keys_of}
use Rattle.std.specs.Option.{option_map}
use Rattle.std.specs.Ordering.{eq_by_cmp}
use Rattle.std.specs.String.{string_bytes, string_cmp}
use Rattle.std.proofs.lemmas.List.Elements.{All-contains}
use Rattle.std.proofs.lemmas.Option.{same_Some}
use Rattle.sums.proofs.Members.{contains_map, from_map}
use Rattle.sums.specs.declared.print.Print.{Print}
use Rattle.suites.specs.Counts.{Counts}
use Rattle.suites.specs.Keys.{text_order}
use Rattle.suites.specs.KeyLemmas.{text_order_total, text_order-IsAntisymmetric}
use Rattle.suites.specs.Pool.{PoolWith, files_of, pair_of}
use Rattle.suites.specs.Shelves.{AreSound, ShelvesValue, pool}
use Rattle.suites.specs.declared.item.Item.{Item}
use Rattle.suites.specs.declared.item.PoolFile.{PoolFile}
use Rattle.suites.specs.declared.key.ShelfKey.{ShelfKey}
use Rattle.suites.specs.declared.shelves.SharedFile.{SharedFile}
use Rattle.suites.proofs.EntryLemmas.{found_at}
use Rattle.suites.proofs.FileMembers.{agreed_found, files_contain, member_found}
use Rattle.suites.proofs.ListMembers.{from_filter, from_flat_map}
use Rattle.suites.proofs.MapEntries.{is_sorted-from_ordered, read, read_alike, sorted_read}
use Rattle.suites.proofs.MapLemmas.{entries-view}
use Rattle.suites.proofs.SharedLemmas.{get-pool, same_test}
use Rattle.tree.specs.Files.{file_at, files_in, named_by, pool_files}
use Rattle.tree.specs.Tree.{AreShown, is_among}
use Rattle.tree.proofs.Ends.{AreAgreed}

-- ---- what is among them

any_key : (path : List ℕ) (es : List (List ℕ × Print)) → list_any (λ f. bytes_eq f.path path) (map file_at es) ≡ list_any (eq_by_cmp text_order path) (map (λ e. e.0) es)
any_key path [] = refl
any_key path (e ∷ es) = λ i. same_test path e.0 i || any_key path es i

-- a file of the pool stands at a path if and only if the pool has something there
pub among_pool : (shelves : ShelvesValue) (path : List ℕ) → is_some (get (pool shelves) path) ≡ is_among (pool_files shelves) path
unfolding pool_files
among_pool shelves path = contains_key-keys (pool shelves) path ∙ sym (any_key path (entries (pool shelves)))

-- a file of the list is what the pool has at its path
pub pool_has : (shelves : ShelvesValue) (f : PoolFile) → Contains (pool_files shelves) f → get (pool shelves) f.path ≡ Some f.print
unfolding pool_files
pool_has shelves f h =
    let m = pool shelves in
    let e = from_map file_at f (entries m) h in
    subst (λ (g : PoolFile). get m g.path ≡ Some g.print) e.2
    (get-entries m e.0.0 ∙ All-contains (λ g. find text_order g.0 (entries m) ≡ Some g.1) (entries m) e.0 (found_at text_order_total (entries m) (entries_sorted m)) e.1)

-- what the pool has at a path is a file of the list
pub of_pool : (shelves : ShelvesValue) (f : PoolFile) → get (pool shelves) f.path ≡ Some f.print → Contains (pool_files shelves) f
unfolding pool_files
of_pool shelves f h =
    let m = pool shelves in
    contains_map file_at (f.path, f.print) (entries m) (member_found text_order-IsAntisymmetric f.path f.print (entries m) (sym (get-entries m f.path) ∙ h))

-- at one path the same contents
pub pool_agrees : (shelves : ShelvesValue) → AreAgreed (pool_files shelves)
pool_agrees shelves f g in_f in_g same =
    same_Some f.print g.print (sym (pool_has shelves f in_f) ∙ ap (get (pool shelves)) same ∙ pool_has shelves g in_g)

-- ---- what suites name

-- the files of an item that is shown are of the pool
pub names_pool : (shelves : ShelvesValue) → AreSound shelves → AreShown (pool_files shelves) (named_by shelves)
names_pool shelves sound suite f h =
    let e = from_flat_map (λ (e : ShelfKey × Item). e.1.files) f (filter (λ e. nat_eq e.0.suite suite) (entries shelves)) h in
    let shown = (from_filter (λ (e : ShelfKey × Item). nat_eq e.0.suite suite) e.0 (entries shelves) e.1).0 in
    let item = contains_map (λ (e : ShelfKey × Item). e.1) e.0 (entries shelves) shown in
    let file = files_contain (values shelves) e.0.1 (pair_of f) item (contains_map pair_of f e.0.1.files e.2) in
    of_pool shelves f (get-from_entries text_order_total (files_of (values shelves)) f.path ∙ agreed_found (files_of (values shelves)) f.path f.print sound.agreed file)

-- ---- the program's map of them

-- the entries of the map, as those of the pool
abbrev pairs : List (String Global × SharedFile) → List (List ℕ × Print)
pairs es = map (λ e. (string_bytes e.0, e.1.print)) es

found_print : (path : List ℕ) (es : List (String Global × SharedFile))
    → find text_order path (pairs es) ≡ option_map (λ (f : SharedFile). f.print) (find text_order path (read string_bytes es))
found_print path [] = refl
found_print path (e ∷ es) = by_kind (eq_by_cmp text_order path (string_bytes e.0)) (found_print path es)
  where
    by_kind : (b : Bool) → find text_order path (pairs es) ≡ option_map (λ (f : SharedFile). f.print) (find text_order path (read string_bytes es))
        → cond b (Some e.1.print) (find text_order path (pairs es)) ≡ option_map (λ (f : SharedFile). f.print) (cond b (Some e.1) (find text_order path (read string_bytes es)))
    by_kind true more = refl
    by_kind false more = more

same_files : (es : List (String Global × SharedFile)) → map file_at (pairs es) ≡ map (λ (e : String Global × SharedFile). record { path = string_bytes e.0; print = e.1.print }) es
same_files [] = refl
same_files (e ∷ es) = ap (λ fs. file_at (string_bytes e.0, e.1.print) ∷ fs) (same_files es)

same_keys_read : (es : List (String Global × SharedFile)) → keys_of (pairs es) ≡ keys_of (read string_bytes es)
same_keys_read [] = refl
same_keys_read (e ∷ es) = ap (λ ks. string_bytes e.0 ∷ ks) (same_keys_read es)

-- the map that shelves have of the files of the pool lists just these
pub pool_listed : (m : BTreeMap (String Global) SharedFile) (shelves : ShelvesValue) → IsOrdered string_cmp m → Counts m shelves → files_in m ≡ pool_files shelves
unfolding pool_files
pool_listed m shelves ordered counts =
    let es = pairs m.entries in
    let sorted = is_sorted-from_ordered text_order es (subst (IsStrictlySortedBy text_order) (sym (same_keys_read m.entries)) (sorted_read string_bytes text_order m.entries ordered)) in
    sym (same_files m.entries)
    ∙ ap (map file_at) (sym (entries-view text_order_total text_order-IsAntisymmetric es sorted))
    ∙ ap (λ (pool : PoolWith Print). map file_at (entries pool)) (same_map text_order_total text_order-IsAntisymmetric (from_entries es) (pool shelves) (λ q.
    get-from_entries text_order_total es q
    ∙ found_print q m.entries
    ∙ ap (option_map (λ (f : SharedFile). f.print)) (sym (read_alike string_bytes text_order q m.entries) ∙ counts q)
    ∙ get-pool q shelves))
