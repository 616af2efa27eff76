-- Names that are written by parts, lists that are equal, and items that are as their records say.
use Rattle.std.proofs.Common.{◌≡◌, ℕ, zero, suc, ◌+◌, ◌<◌, Bool, true, false, List, [], ◌∷◌, ◌++◌, map, length, take, slice_index_or, Ok, IsTrue, sym, subst, ap, ap₂, ◌∙◌, append_assoc, arith, true≢false}
use Rattle.std.specs.Prelude.{codes, ◌↔◌}
use Rattle.std.specs.Bool.{Decides}
use Rattle.std.specs.List.{AllByRecursion}
use Rattle.std.specs.FinMap.{entries}
use Rattle.std.proofs.lemmas.Bool.Decides.{Decides-and}
use Rattle.std.proofs.lemmas.List.Elements.{All-from_recursion, All-weaker, recursion_from_All}
use Rattle.std.proofs.lemmas.Slice.Eq.{bytes_eq-Decides}
use Rattle.records.specs.Records.{dsc_in, sidecar_in}
use Rattle.records.specs.Values.{DscValue, SidecarValue}
use Rattle.rules.specs.declared.suite.Suite.{Suite}
use Rattle.sums.specs.Prints.{print as print_of}
use Rattle.suites.specs.Pool.{directory_of, pool_path}
use Rattle.suites.specs.Shelves.{ShelvesValue}
use Rattle.suites.specs.Told.{AreTold, IsBinaryOf, IsSourceOf, IsTold, deb_file, is_kept_by, listed_file, path_in}
use Rattle.suites.specs.Verdict.{dsc_file}
use Rattle.suites.specs.declared.item.Item.{Item}
use Rattle.suites.specs.declared.item.PoolFile.{PoolFile}
use Rattle.suites.specs.declared.key.ShelfKey.{ShelfKey}
use Rattle.tables_audit.specs.Columns.{StandsTold, has_binary_columns, has_one_at, has_source_columns}

tail : {X : Type 0} → List X → List X
tail [] = []
tail (x ∷ xs) = xs

pub path_written : (item : Item) (name directory : List ℕ) → directory ≡ directory_of item.component item.source → directory ++ (codes "/" ++ name) ≡ path_in item name
unfolding pool_path
path_written item name directory e = rw e (simp append_assoc)

-- one more element that is equal
next_same : {X : Type 0} (xs ys : List X) (n : ℕ) (d : X) → n < length xs → n < length ys → slice_index_or xs n d ≡ slice_index_or ys n d → take n xs ≡ take n ys → take (suc n) xs ≡ take (suc n) ys
unfolding tail
next_same [] ys n d some there is before = absurd (omega arith)
next_same (x ∷ xs) [] n d some there is before = absurd (omega arith)
next_same (x ∷ xs) (y ∷ ys) zero d some there is before = ap (λ z. z ∷ []) is
next_same (x ∷ xs) (y ∷ ys) (suc n) d some there is before =
    ap₂ (λ z zs. z ∷ zs) (ap (λ l. slice_index_or l 0 x) before) (next_same xs ys n d (omega arith) (omega arith) is (ap tail before))

pub more_same : {X : Type 0} (xs ys : List X) (n : ℕ) (d : X) → n < length xs → n < length ys → slice_index_or xs n d ≡ slice_index_or ys n d → take n xs ≡ take n ys → take (n + 1) xs ≡ take (n + 1) ys
more_same xs ys n d some there is before = let one : suc n ≡ n + 1 = omega arith in subst (λ k. take k xs ≡ take k ys) one (next_same xs ys n d some there is before)

-- ---- items

pub source_columns : (item : Item) (d : DscValue) → Decides (has_source_columns item d) ((((item.«package» ≡ d.source) × (item.source ≡ d.source)) × (item.architecture ≡ codes "source")) × (item.version ≡ d.version))
unfolding has_source_columns
source_columns item d =
    Decides-and _ _ (Decides-and _ _ (Decides-and _ _ (bytes_eq-Decides item.«package» d.source) (bytes_eq-Decides item.source d.source)) (bytes_eq-Decides item.architecture (codes "source"))) (bytes_eq-Decides item.version d.version)

pub binary_columns : (item : Item) (s : SidecarValue) → Decides (has_binary_columns item s) ((((item.«package» ≡ s.name) × (item.source ≡ s.source)) × (item.architecture ≡ s.architecture)) × (item.version ≡ s.version))
unfolding has_binary_columns
binary_columns item s =
    Decides-and _ _ (Decides-and _ _ (Decides-and _ _ (bytes_eq-Decides item.«package» s.name) (bytes_eq-Decides item.source s.source)) (bytes_eq-Decides item.architecture s.architecture)) (bytes_eq-Decides item.version s.version)

pub no_source : (item : Item) (d : DscValue) → has_source_columns item d ≡ false → IsSourceOf item d → ⊥
no_source item d other h = true≢false (sym ((source_columns item d).1 (((h.«package», h.source), h.architecture), h.version)) ∙ other)

pub no_binary : (item : Item) (s : SidecarValue) → has_binary_columns item s ≡ false → IsBinaryOf item s → ⊥
no_binary item s other h = true≢false (sym ((binary_columns item s).1 (((h.«package», h.source), h.architecture), h.version)) ∙ other)

pub source_files : (item : Item) (d : DscValue) (files : List PoolFile) (b : Bool) → dsc_in item.paragraph ≡ Ok d → has_source_columns item d ≡ true
    → files ≡ record { path = path_in item (dsc_file d); print = print_of item.paragraph } ∷ map (listed_file item) d.entries
    → IsTrue b ↔ item.files ≡ files → IsTrue b ↔ IsSourceOf item d
source_files item d files b read columns are both = (
  λ yes. let same = (source_columns item d).0 columns in record {
    paragraph = read;
    «package» = same.0.0.0;
    source = same.0.0.1;
    architecture = same.0.1;
    version = same.1;
    files = both.0 yes ∙ are;
  },
  λ h. both.1 (h.files ∙ sym are),
)

pub one_at : (path : List ℕ) (files : List PoolFile) → Decides (has_one_at path files) (map (λ f. f.path) files ≡ path ∷ [])
one_at path [] = (λ e. absurd (true≢false (sym e)), λ e. let lengths : 0 ≡ 1 = ap length e in absurd (omega arith))
one_at path (f ∷ []) = (λ e. ap (λ p. p ∷ []) ((bytes_eq-Decides f.path path).0 e), λ e. (bytes_eq-Decides f.path path).1 (ap (λ l. slice_index_or l 0 path) e))
one_at path (f ∷ g ∷ files) = (λ e. absurd (true≢false (sym e)), λ e. let lengths : length (map (λ (h : PoolFile). h.path) (f ∷ g ∷ files)) ≡ 1 = ap length e in absurd (omega arith))

pub package_file : (item : Item) (s : SidecarValue) (path : List ℕ) → sidecar_in item.paragraph ≡ Ok s → has_binary_columns item s ≡ true → path ≡ path_in item (deb_file s)
    → IsTrue (has_one_at path item.files) ↔ IsBinaryOf item s
package_file item s path read columns is = (
  λ yes. let same = (binary_columns item s).0 columns in record {
    paragraph = read;
    «package» = same.0.0.0;
    source = same.0.0.1;
    architecture = same.0.1;
    version = same.1;
    files = (one_at path item.files).0 yes ∙ ap (λ p. p ∷ []) is;
  },
  λ h. (one_at path item.files).1 (h.files ∙ ap (λ p. p ∷ []) (sym is)),
)

-- ---- what is shown

pub all_told : (suites : List Suite) (shelves : ShelvesValue) → AllByRecursion (StandsTold suites) (entries shelves) ↔ AreTold suites shelves
all_told suites shelves = (
  λ all. record {
    told = All-weaker (StandsTold suites) (λ e. IsTold e.1) (λ e h. h.told) (entries shelves) (All-from_recursion (StandsTold suites) (entries shelves) all);
    kept = All-weaker (StandsTold suites) (λ e. is_kept_by suites e ≡ true) (λ e h. h.kept) (entries shelves) (All-from_recursion (StandsTold suites) (entries shelves) all);
  },
  λ h. both (entries shelves) (recursion_from_All (λ e. IsTold e.1) (entries shelves) h.told) (recursion_from_All (λ e. is_kept_by suites e ≡ true) (entries shelves) h.kept),
)
  where
    both : (es : List (ShelfKey × Item)) → AllByRecursion (λ e. IsTold e.1) es → AllByRecursion (λ e. is_kept_by suites e ≡ true) es → AllByRecursion (StandsTold suites) es
    both [] told kept = tt
    both (e ∷ es) told kept = (record { told = told.0; kept = kept.0 }, both es told.1 kept.1)
