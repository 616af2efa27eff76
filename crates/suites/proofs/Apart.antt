-- The items of an accepted upload have shelves of their own.
use Rattle.std.proofs.Common.{◌≡◌, ◌≢◌, ℕ, true, false, List, [], ◌∷◌, ◌++◌, map, bytes_eq, Option, Some, None, refl, sym, ap, ◌∙◌, arith}
use Rattle.std.specs.Prelude.{AllPairs, Contains}
use Rattle.std.specs.List.{list_any}
use Rattle.std.proofs.lemmas.List.Kept.{AllPairs-cons}
use Rattle.std.proofs.lemmas.Slice.Eq.{bytes_eq-Decides}
use Rattle.records.specs.Values.{ChangesValue, SidecarValue}
use Rattle.sums.proofs.Booleans.{neither}
use Rattle.sums.proofs.Members.{contains_map, from_map, any_false, all_from}
use Rattle.suites.specs.Items.{item_of, standing}
use Rattle.suites.specs.Judging.{part_of}
use Rattle.suites.specs.Keys.{kind_number}
use Rattle.suites.specs.Upload.{source_item, binary_item}
use Rattle.suites.specs.Verdict.{have_twins, is_same_package}
use Rattle.suites.specs.declared.item.Item.{Item}
use Rattle.suites.specs.declared.items.BinaryPart.{BinaryPart}
use Rattle.suites.specs.declared.items.SourcePart.{SourcePart}
use Rattle.suites.specs.declared.key.ShelfKey.{ShelfKey}
use Rattle.suites.proofs.UploadItems.{source_items, binary_items}

-- two sidecars with the same package and architecture
same_package : (s t : SidecarValue) → s.name ≡ t.name → s.architecture ≡ t.architecture → is_same_package s t ≡ true
unfolding is_same_package
same_package s t name architecture =
    let p : bytes_eq s.name t.name ≡ true = (bytes_eq-Decides s.name t.name).1 name in
    let q : bytes_eq s.architecture t.architecture ≡ true = (bytes_eq-Decides s.architecture t.architecture).1 architecture in
    rw (p, q) refl

-- the item of a sidecar on its shelf
abbrev stands : ℕ → ChangesValue → List ℕ → BinaryPart → ShelfKey × Item
stands suite c component b = standing suite (item_of (binary_item (λ e. e.print) c component (part_of b.part) b.sidecar))

apart_shelves : (suite : ℕ) (c : ChangesValue) (component : List ℕ) (a b : BinaryPart) → is_same_package a.sidecar b.sidecar ≡ false
    → (stands suite c component a).0 ≢ (stands suite c component b).0
apart_shelves suite c component a b h e =
    let twins = same_package a.sidecar b.sidecar (ap (λ (k : ShelfKey). k.package) e) (ap (λ (k : ShelfKey). k.architecture) e) in
    cc (sym h ∙ twins)

abbrev stand : ℕ → ChangesValue → List ℕ → List BinaryPart → List (ShelfKey × Item)
stand suite c component binaries = map (standing suite) (map item_of (binary_items c component binaries))

-- each of what stands is the item of a sidecar
stands_for : (suite : ℕ) (c : ChangesValue) (component : List ℕ) (binaries : List BinaryPart) (e : ShelfKey × Item) → Contains (stand suite c component binaries) e
    → (b : BinaryPart) × Contains binaries b × (stands suite c component b ≡ e)
stands_for suite c component binaries e h =
    let item = from_map (standing suite) e (map item_of (binary_items c component binaries)) h in
    let given = from_map item_of item.0 (binary_items c component binaries) item.1 in
    let part = from_map (λ (b : BinaryPart). binary_item (λ e. e.print) c component (part_of b.part) b.sidecar) given.0 binaries given.1 in
    (part.0, part.1, ap (λ i. standing suite (item_of i)) part.2 ∙ ap (standing suite) given.2 ∙ item.2)

binaries_apart : (suite : ℕ) (c : ChangesValue) (component : List ℕ) (binaries : List BinaryPart) → have_twins (map (λ b. b.sidecar) binaries) ≡ false
    → AllPairs (λ a b. a.0 ≢ b.0) (stand suite c component binaries)
binaries_apart suite c component [] h = λ i j d below within. absurd (omega arith)
binaries_apart suite c component (b ∷ rest) h =
    let none = neither (list_any (is_same_package b.sidecar) (map (λ (b : BinaryPart). b.sidecar) rest)) (have_twins (map (λ (b : BinaryPart). b.sidecar) rest)) h in
    AllPairs-cons (λ (a b : ShelfKey × Item). a.0 ≢ b.0) (stands suite c component b) (stand suite c component rest)
    (all_from (λ (e : ShelfKey × Item). (stands suite c component b).0 ≢ e.0) (stand suite c component rest)
    (λ e listed. other b rest none.0 e (stands_for suite c component rest e listed)))
    (binaries_apart suite c component rest none.1)
  where
    other : (b : BinaryPart) (rest : List BinaryPart) → list_any (is_same_package b.sidecar) (map (λ (b : BinaryPart). b.sidecar) rest) ≡ false → (e : ShelfKey × Item)
        → (x : BinaryPart) × Contains rest x × (stands suite c component x ≡ e) → (stands suite c component b).0 ≢ e.0
    other b rest none e for same =
        apart_shelves suite c component b for.0
        (any_false (is_same_package b.sidecar) (map (λ (b : BinaryPart). b.sidecar) rest) for.0.sidecar none (contains_map (λ (b : BinaryPart). b.sidecar) for.0 rest for.1))
        (same ∙ sym (ap (λ x. x.0) for.2))

-- a source stands on no package's shelf
pub items_apart : (suite : ℕ) (c : ChangesValue) (component : List ℕ) (source : Option SourcePart) (binaries : List BinaryPart) → have_twins (map (λ b. b.sidecar) binaries) ≡ false
    → AllPairs (λ a b. a.0 ≢ b.0) (map (standing suite) (map item_of (source_items c component source ++ binary_items c component binaries)))
items_apart suite c component None binaries h = binaries_apart suite c component binaries h
items_apart suite c component (Some s) binaries h =
    AllPairs-cons (λ (a b : ShelfKey × Item). a.0 ≢ b.0) (standing suite (item_of (source_item (λ e. e.print) c component (part_of s.part) s.dsc))) (stand suite c component binaries)
    (all_from (λ (e : ShelfKey × Item). (standing suite (item_of (source_item (λ e. e.print) c component (part_of s.part) s.dsc))).0 ≢ e.0) (stand suite c component binaries)
    (λ e listed same. let for = stands_for suite c component binaries e listed in
    let kinds : 0 ≡ 1 = ap (λ (k : ShelfKey). kind_number k.kind) (same ∙ sym (ap (λ x. x.0) for.2)) in
    absurd (omega (arith, kinds))))
    (binaries_apart suite c component binaries h)
