-- Files that are those of a pool, row by row and path by path.
use Rattle.std.proofs.Common.{◌≡◌, ◌≢◌, ◌⊎◌, ℕ, ◌+◌, ◌<◌, Bool, true, false, ◌||◌, cond, List, [], ◌∷◌, ◌++◌, find, take, length, get_or, refl, sym, ap, subst, subst₂, ◌∙◌, inl, inr, Option, Some, None, option_map, is_some, bytes_eq, true≢false}
use Rattle.std.specs.Prelude.{◌↔◌, Contains, String}
use Rattle.std.specs.declared.alloc.Global.{Global}
use Rattle.std.specs.List.{All, list_all, list_any}
use Rattle.std.specs.Option.{option_and_then}
use Rattle.std.specs.FinMap.{get, get-from_entries, values}
use Rattle.std.specs.FinMap as keyed
use Rattle.std.proofs.lemmas.List.{map-append, take_more}
use Rattle.std.proofs.lemmas.List.Elements.{All-append, All-cons, All-nil}
use Rattle.std.proofs.lemmas.List.Folds.{list_any-append}
use Rattle.std.proofs.lemmas.Slice.Eq.{bytes_eq-Decides}
use Rattle.std.specs.BTreeMap.{BTreeMap, get_by_text, is_at}
use Rattle.std.specs.Map.{lookup}
use Rattle.std.specs.String.{string_bytes}
use Rattle.std.specs.Ordering.{eq_by_cmp}
use Rattle.std.specs.Cmp.{eq_by_cmp_equiv}
use Rattle.std.proofs.lemmas.Bool.{and_from, and_parts, both_ways}
use Rattle.std.proofs.Math.Bool.{or-true, or-false}
use Rattle.sums.proofs.Members.{all_at, all_from, any_true, by_name, contains_map, find_one, from_map, here, no_member, there, which}
use Rattle.suites.proofs.EntryLemmas.{same_keys}
use Rattle.sums.specs.declared.print.Print.{Print}
use Rattle.suites.specs.Keys.{text_order}
use Rattle.suites.specs.Counts.{Counts, count_at, shared_at}
use Rattle.suites.specs.KeyLemmas.{text_order_total, text_order-IsAntisymmetric}
use Rattle.suites.specs.declared.shelves.SharedFile.{SharedFile}
use Rattle.suites.specs.Pool.{PoolWith, files_of}
use Rattle.suites.specs.Shelves.{ShelvesValue, pool}
use Rattle.tables.specs.Files.{is_file_at}
use Rattle.tables.specs.Rows.{Numbered, Tables, rows_of}
use Rattle.tables.specs.declared.rows.BodyRow.{BodyRow}
use Rattle.tables.specs.declared.rows.File.{File}
use Rattle.tables_read.specs.All.{AreConstrained}
use Rattle.tables_meaning.specs.Kept.{AreFiles, has_body, print_at}
use Rattle.book.proofs.Finds.{found_passes, found_in, is_some_of_find}
use Rattle.tables_audit.specs.Files.{AreThose, HasPrint, is_path}

path_is : (f : File) (path : List ℕ) → is_file_at path f ≡ true → f.path ≡ path
path_is f path e = (bytes_eq-Decides f.path path).0 e

module _ (t : Tables) (shown : ShelvesValue) (keys : AreConstrained t) where
  -- what the rows say of a path
  abbrev there_at : Option File → Option Print
  there_at f = option_and_then (λ g. print_at t g.body) f

  from_rows : AreThose (pool shown) t.bodies t.files → (path : List ℕ) (f : Option File) → find (is_file_at path) (rows_of t.files) ≡ f → there_at f ≡ get (pool shown) path
  from_rows those path None found = none (get (pool shown) path) refl
    where
      none : (o : Option Print) → get (pool shown) path ≡ o → None ≡ o
      none None e = refl
      none (Some p) e =
          let here_in : is_path t.files path ≡ true = those.there path (λ n. let clash : Some p ≡ None = sym e ∙ n in cc) in
          let absent : is_path t.files path ≡ false = sym (is_some_of_find (is_file_at path) (rows_of t.files)) ∙ ap is_some found in
          cc
  from_rows those path (Some f) found =
      let row = from_map (λ x. x.1) f t.files (found_in (is_file_at path) (rows_of t.files) f found) in
      let print : print_at t row.0.1.body ≡ get (pool shown) row.0.1.path = all_at (HasPrint (pool shown) t.bodies) t.files row.0 those.prints row.1 in
      ap (λ (g : File). print_at t g.body) (sym row.2)
      ∙ print
      ∙ ap (λ (g : File). get (pool shown) g.path) row.2
      ∙ ap (get (pool shown)) (path_is f path (found_passes (is_file_at path) (rows_of t.files) f found))

  own_row : (f : ℕ × File) → Contains t.files f → find (is_file_at f.1.path) (rows_of t.files) ≡ Some f.1
  own_row f inside =
      let member : Contains (rows_of t.files) f.1 = contains_map (λ x. x.1) f t.files inside in
      find_one (is_file_at f.1.path) (rows_of t.files) f.1 member ((bytes_eq-Decides f.1.path f.1.path).1 refl)
      (λ g at passes. by_name (λ (x : File). x.path) (rows_of t.files) g f.1 keys.files_apart at member (path_is g f.1.path passes))

  at_path : AreFiles t shown → (path : List ℕ) (f : Option File) → find (is_file_at path) (rows_of t.files) ≡ f → get (pool shown) path ≢ None → is_path t.files path ≡ true
  at_path files path None found some = absurd (some (sym (files.are path) ∙ ap there_at found))
  at_path files path (Some f) found some = any_true (is_file_at path) (rows_of t.files) f (found_in (is_file_at path) (rows_of t.files) f found) (found_passes (is_file_at path) (rows_of t.files) f found)

  -- The rows are those of the pool's files exactly if each has the pool's print and each path has its row.
  pub files_fit : AreThose (pool shown) t.bodies t.files ↔ AreFiles t shown
  unfolding has_body
  files_fit = (
    λ those. record {
      are = λ path. from_rows those path (find (is_file_at path) (rows_of t.files)) refl;
      bodies = keys.files_owned;
      apart = keys.files_apart;
    },
    λ files. record {
      prints = all_from (HasPrint (pool shown) t.bodies) t.files (λ f inside. ap there_at (sym (own_row f inside)) ∙ files.are f.1.path);
      there = λ path some. at_path files path (find (is_file_at path) (rows_of t.files)) refl some;
    },
  )

-- ---- the paths of maps

abbrev pub Paths : Type 0
Paths = BTreeMap (String Global) ℕ

abbrev pub Shared : Type 0
Shared = BTreeMap (String Global) SharedFile

-- the path of an entry is one of these
abbrev pub is_there : Paths → String Global × SharedFile → Bool
is_there paths e = is_some (get_by_text paths (string_bytes e.0))

own_found : (es : List (String Global × SharedFile)) (e : String Global × SharedFile) → Contains es e → is_some (lookup (is_at (λ k. text_order (string_bytes e.0) (string_bytes k))) es) ≡ true
own_found [] e inside = no_member e inside
own_found (x ∷ es) e inside = go (eq_by_cmp text_order (string_bytes e.0) (string_bytes x.0)) refl (own_found es e) (which x e es inside)
  where
    go : (b : Bool) → eq_by_cmp text_order (string_bytes e.0) (string_bytes x.0) ≡ b → (Contains es e → is_some (lookup (is_at (λ k. text_order (string_bytes e.0) (string_bytes k))) es) ≡ true)
        → (x ≡ e) ⊎ Contains es e → is_some (cond b (Some x.1) (lookup (is_at (λ k. text_order (string_bytes e.0) (string_bytes k))) es)) ≡ true
    go true t more at = refl
    go false t more (inl same) = absurd (both_ways (eq_by_cmp text_order (string_bytes e.0) (string_bytes x.0)) t
        (ap (λ (y : String Global × SharedFile). eq_by_cmp text_order (string_bytes e.0) (string_bytes y.0)) same ∙ (eq_by_cmp_equiv text_order_total).refl (string_bytes e.0)))
    go false t more (inr later) = more later

there_each : (paths : Paths) (path : List ℕ) (es : List (String Global × SharedFile)) → list_all (is_there paths) es ≡ true
    → is_some (lookup (is_at (λ k. text_order path (string_bytes k))) es) ≡ true → is_some (get_by_text paths path) ≡ true
there_each paths path [] all h = absurd (true≢false (sym h))
there_each paths path (x ∷ es) all h = go (eq_by_cmp text_order path (string_bytes x.0)) refl (there_each paths path es) h
  where
    parts : (is_there paths x ≡ true) × (list_all (is_there paths) es ≡ true)
    parts = and_parts (is_there paths x) (list_all (is_there paths) es) all

    go : (b : Bool) → eq_by_cmp text_order path (string_bytes x.0) ≡ b
        → (list_all (is_there paths) es ≡ true → is_some (lookup (is_at (λ k. text_order path (string_bytes k))) es) ≡ true → is_some (get_by_text paths path) ≡ true)
        → is_some (cond b (Some x.1) (lookup (is_at (λ k. text_order path (string_bytes k))) es)) ≡ true → is_some (get_by_text paths path) ≡ true
    go true t more f = ap (λ p. is_some (get_by_text paths p)) (same_keys text_order-IsAntisymmetric path (string_bytes x.0) t) ∙ parts.0
    go false t more f = more parts.1 f

all_of : {X : Type 0} (p : X → Bool) (xs : List X) → ((x : X) → Contains xs x → p x ≡ true) → list_all p xs ≡ true
all_of p [] h = refl
all_of p (x ∷ xs) h = and_from (p x) (list_all p xs) (h x (here x xs)) (all_of p xs (λ y at. h y (there x y xs at)))

-- each entry's path is one of these exactly if each path of the map is
pub each_there : (paths : Paths) (shared : Shared)
    → (list_all (is_there paths) shared.entries ≡ true) ↔ ((path : List ℕ) → is_some (get_by_text shared path) ≡ true → is_some (get_by_text paths path) ≡ true)
each_there paths shared = (
  λ all path h. there_each paths path shared.entries all h,
  λ each. all_of (is_there paths) shared.entries (λ e at. each (string_bytes e.0) (own_found shared.entries e at)),
)

-- a path of the pool is one of its counted files
pool_there : (shared : Shared) (shelves : ShelvesValue) → Counts shared shelves → (path : List ℕ) → is_some (get_by_text shared path) ≡ is_some (get (pool shelves) path)
unfolding shared_at
pool_there shared shelves counts path =
    ap is_some (counts path)
    ∙ mapped (keyed.find text_order path (files_of (values shelves)))
    ∙ ap is_some (sym (get-from_entries text_order_total (files_of (values shelves)) path))
  where
    mapped : (o : Option Print) → is_some {T = SharedFile} (option_map (λ print. record { print = print; references = count_at path (files_of (values shelves)) }) o) ≡ is_some o
    mapped None = refl
    mapped (Some p) = refl

module _ (shelves : ShelvesValue) (bodies : Numbered BodyRow) (files : Numbered File) (shared : Shared) (paths : Paths) (counts : Counts shared shelves)
    (are : (path : List ℕ) → is_some (get_by_text paths path) ≡ is_path files path) where
  -- The rows are those of the pool if each has its print and each path of the pool is among them.
  pub those_from : All (HasPrint (pool shelves) bodies) files → ((path : List ℕ) → is_some (get_by_text shared path) ≡ true → is_some (get_by_text paths path) ≡ true)
      → AreThose (pool shelves) bodies files
  those_from prints each = record {
    prints = prints;
    there = λ path some. sym (are path) ∙ each path (pool_there shared shelves counts path ∙ not_none (get (pool shelves) path) some);
  }
    where
      not_none : {X : Type 0} (o : Option X) → o ≢ None → is_some o ≡ true
      not_none None h = absurd (h refl)
      not_none (Some x) h = refl

  pub those_to : AreThose (pool shelves) bodies files → (path : List ℕ) → is_some (get_by_text shared path) ≡ true → is_some (get_by_text paths path) ≡ true
  those_to those path h = are path ∙ those.there path (λ none. true≢false (sym h ∙ pool_there shared shelves counts path ∙ ap is_some none))

-- ---- the paths so far

-- one more path
one_path : (files : Numbered File) (f : ℕ × File) (old new : Paths) → ((path : List ℕ) → is_some (get_by_text old path) ≡ is_path files path)
    → ((path : List ℕ) → get_by_text new path ≡ cond (bytes_eq f.1.path path) (Some f.1.body) (get_by_text old path))
    → (path : List ℕ) → is_some (get_by_text new path) ≡ is_path (files ++ f ∷ []) path
one_path files f old new was put path =
    ap is_some (put path)
    ∙ go (bytes_eq f.1.path path) refl
    ∙ sym (ap (list_any (is_file_at path)) (map-append (λ x. x.1) files (f ∷ [])) ∙ list_any-append (is_file_at path) (rows_of files) (f.1 ∷ []))
  where
    go : (b : Bool) → bytes_eq f.1.path path ≡ b → is_some (cond b (Some f.1.body) (get_by_text old path)) ≡ is_path files path || list_any (is_file_at path) (f.1 ∷ [])
    go true t = rw t (sym (or-true (is_path files path)))
    go false t = was path ∙ rw t (sym (or-false (is_path files path)))

-- one more path of these
pub path_more : (files : Numbered File) (n : ℕ) (d : ℕ × File) (old new : Paths) → n < length files → ((path : List ℕ) → is_some (get_by_text old path) ≡ is_path (take n files) path)
    → ((path : List ℕ) → get_by_text new path ≡ cond (bytes_eq (get_or files n d).1.path path) (Some (get_or files n d).1.body) (get_by_text old path))
    → (path : List ℕ) → is_some (get_by_text new path) ≡ is_path (take (n + 1) files) path
path_more files n d old new lt was put path = one_path (take n files) (get_or files n d) old new was put path ∙ ap (λ xs. is_path xs path) (sym (take_more files n d lt))

-- one more file that has its print
pub prints_more : (there : PoolWith Print) (bodies : Numbered BodyRow) (files : Numbered File) (n : ℕ) (d : ℕ × File) → n < length files → All (HasPrint there bodies) (take n files)
    → HasPrint there bodies (get_or files n d) → All (HasPrint there bodies) (take (n + 1) files)
prints_more there bodies files n d lt so_far has =
    subst (All (HasPrint there bodies)) (sym (take_more files n d lt))
    (All-append (HasPrint there bodies) (take n files) (get_or files n d ∷ []) so_far (All-cons (HasPrint there bodies) (get_or files n d) [] has (All-nil (HasPrint there bodies))))

-- rows of these slices are those of the tables
pub fit_of : (b : Bool) (t : Tables) (shown : ShelvesValue) (bodies : Numbered BodyRow) (files : Numbered File) → bodies ≡ t.bodies → files ≡ t.files
    → (b ≡ true) ↔ AreThose (pool shown) bodies files → AreConstrained t → (b ≡ true) ↔ AreFiles t shown
fit_of b t shown bodies files same_bodies same_files h keys =
    let those : (b ≡ true) ↔ AreThose (pool shown) t.bodies t.files = subst₂ (λ xs ys. (b ≡ true) ↔ AreThose (pool shown) xs ys) same_bodies same_files h in
    let fit = files_fit t shown keys in (
      λ yes. fit.0 (those.0 yes),
      λ files. those.1 (fit.1 files),
    )
