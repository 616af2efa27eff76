-- The files of the items of an upload are files of entries.
use Rattle.std.proofs.Common.{◌≡◌, ℕ, false, List, [], ◌∷◌, ◌++◌, map, codes, Option, Some, None, option_to_list, sym, ap, ◌∙◌, subst, inl, inr}
use Rattle.std.specs.Prelude.{Contains}
use Rattle.std.proofs.lemmas.List.Elements.{Contains-append_cases}
use Rattle.records.specs.Values.{ChangesValue}
use Rattle.rules.specs.Judgement.{component}
use Rattle.sums.proofs.Members.{which, no_member, from_map}
use Rattle.sums.specs.declared.entries.Entry.{Entry}
use Rattle.sums.specs.declared.print.Print.{Print}
use Rattle.suites.specs.Items.{ItemWith, file_of, item_of}
use Rattle.suites.specs.Judging.{part_of}
use Rattle.suites.specs.Pool.{files_of, pair_of}
use Rattle.suites.specs.Upload.{has_suffix, file_at, package_file, stem, source_item, binary_item}
use Rattle.suites.specs.Verdict.{path_of}
use Rattle.suites.specs.declared.item.Item.{Item}
use Rattle.suites.specs.declared.items.BinaryPart.{BinaryPart}
use Rattle.suites.specs.declared.items.SourcePart.{SourcePart}
use Rattle.suites.proofs.ListMembers.{from_flat_map, only}
use Rattle.suites.proofs.Suffixes.{deb-no_sidecar}
use Rattle.suites.proofs.UploadFiles.{IsFile, entry_named-Contains}
use Rattle.suites.proofs.UploadItems.{source_items, binary_items}

-- the entries that a .dsc lists, none if there is no .dsc
abbrev pub dsc_entries : Option SourcePart → List Entry
dsc_entries None = []
dsc_entries (Some s) = s.dsc.entries

-- a path and a print that are those of an entry's file
abbrev pub IsGiven : ChangesValue → List Entry → List ℕ × Print → Type 0
IsGiven c entries f = (e : Entry) × IsFile c entries e × ((path_of c e, e.print) ≡ f)

file_entry : (c : ChangesValue) (es : List Entry) (f : List ℕ × Print) → Contains (map pair_of (map file_of (map (file_at (λ e. e.print) c (component c)) es))) f
    → (e : Entry) × Contains es e × ((path_of c e, e.print) ≡ f)
file_entry c es f h =
    let a = from_map pair_of f (map file_of (map (file_at (λ e. e.print) c (component c)) es)) h in
    let b = from_map file_of a.0 (map (file_at (λ e. e.print) c (component c)) es) a.1 in
    let d = from_map (file_at (λ e. e.print) c (component c)) b.0 es b.1 in
    (d.0, d.1, ap (λ x. pair_of (file_of x)) d.2 ∙ ap pair_of b.2 ∙ a.2)

-- the .dsc is listed, and is not a sidecar
abbrev pub IsListedDsc : ChangesValue → SourcePart → Type 0
IsListedDsc c s = Contains c.entries s.part.entry.now × (has_suffix (codes ".control") s.part.entry.now.name ≡ false)

source_file : (c : ChangesValue) (s : SourcePart) (f : List ℕ × Print) → IsListedDsc c s
    → Contains (map pair_of (item_of (source_item (λ e. e.print) c (component c) (part_of s.part) s.dsc)).files) f → IsGiven c s.dsc.entries f
source_file c s f listed h =
    let found = file_entry c (s.part.entry.now ∷ s.dsc.entries) f h in
    elim (which s.part.entry.now found.0 s.dsc.entries found.1) [
      | inl same ↦ (found.0, inl (subst (λ (e : Entry). Contains c.entries e × (has_suffix (codes ".control") e.name ≡ false)) same listed), found.2)
      | inr more ↦ (found.0, inr more, found.2)
    ]

package_entry : (c : ChangesValue) (sidecar : List ℕ) (e : Entry) → package_file c.entries sidecar ≡ Some e
    → Contains c.entries e × (has_suffix (codes ".control") e.name ≡ false)
unfolding package_file
package_entry c sidecar e h =
    let found = entry_named-Contains (stem (codes ".control") sidecar ++ codes ".deb") c.entries e h in
    (found.0, ap (has_suffix (codes ".control")) found.1 ∙ deb-no_sidecar (stem (codes ".control") sidecar))

binary_file : (c : ChangesValue) (entries : List Entry) (b : BinaryPart) (f : List ℕ × Print)
    → Contains (map pair_of (item_of (binary_item (λ e. e.print) c (component c) (part_of b.part) b.sidecar)).files) f → IsGiven c entries f
binary_file c entries b f h =
    let found = file_entry c (option_to_list (package_file c.entries b.part.entry.now.name)) f h in
    (found.0, inl (package_entry c b.part.entry.now.name found.0 (only (package_file c.entries b.part.entry.now.name) found.0 found.1)), found.2)

abbrev pub IsDscListed : ChangesValue → Option SourcePart → Type 0
IsDscListed c None = Unit {0}
IsDscListed c (Some s) = IsListedDsc c s

source_items_file : (c : ChangesValue) (source : Option SourcePart) (i : ItemWith Print) (f : List ℕ × Print) → IsDscListed c source
    → Contains (source_items c (component c) source) i → Contains (map pair_of (item_of i).files) f → IsGiven c (dsc_entries source) f
source_items_file c None i f listed h k = no_member i h
source_items_file c (Some s) i f listed h k = elim (which (source_item (λ e. e.print) c (component c) (part_of s.part) s.dsc) i [] h) [
  | inl same ↦ source_file c s f listed (subst (λ x. Contains (map pair_of (item_of x).files) f) (sym same) k)
  | inr none ↦ no_member i none
]

binary_items_file : (c : ChangesValue) (entries : List Entry) (binaries : List BinaryPart) (i : ItemWith Print) (f : List ℕ × Print)
    → Contains (binary_items c (component c) binaries) i → Contains (map pair_of (item_of i).files) f → IsGiven c entries f
binary_items_file c entries binaries i f h k =
    let found = from_map (λ (b : BinaryPart). binary_item (λ e. e.print) c (component c) (part_of b.part) b.sidecar) i binaries h in
    binary_file c entries found.0 f (subst (λ x. Contains (map pair_of (item_of x).files) f) (sym found.2) k)

-- each file of the items is that of an entry
pub items_file : (c : ChangesValue) (source : Option SourcePart) (binaries : List BinaryPart) (f : List ℕ × Print) → IsDscListed c source
    → Contains (files_of (map item_of (source_items c (component c) source ++ binary_items c (component c) binaries))) f → IsGiven c (dsc_entries source) f
items_file c source binaries f listed h =
    let held = from_flat_map (λ (item : Item). map pair_of item.files) f (map item_of (source_items c (component c) source ++ binary_items c (component c) binaries)) h in
    let from = from_map item_of held.0 (source_items c (component c) source ++ binary_items c (component c) binaries) held.1 in
    let file = subst (λ (x : Item). Contains (map pair_of x.files) f) (sym from.2) held.2 in
    elim (Contains-append_cases (source_items c (component c) source) (binary_items c (component c) binaries) from.0 from.1) [
      | inl p ↦ source_items_file c source from.0 f listed p file
      | inr q ↦ binary_items_file c (dsc_entries source) binaries from.0 f q file
    ]
