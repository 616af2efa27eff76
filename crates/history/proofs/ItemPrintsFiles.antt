-- The files of the items of an upload are those of entries.
use Rattle.std.proofs.Common.{◌≡◌, ◌⊎◌, ℕ, true, List, [], ◌∷◌, ◌++◌, map, filter_map, Option, Some, None, option_map, option_to_list, Result, Ok, Err, codes, refl, sym, ap, ap₂, ◌∙◌, subst, inl, inr}
use Rattle.std.specs.Prelude.{Contains}
use Rattle.std.specs.List.{cons_option}
use Rattle.std.specs.Result.{result_ok}
use Rattle.std.proofs.lemmas.List.{map-append}
use Rattle.std.proofs.lemmas.List.Elements.{Contains-append_cases}
use Rattle.std.proofs.lemmas.Option.{same_Some}
use Rattle.records.specs.Records.{dsc_in, sidecar_in}
use Rattle.records.specs.Values.{ChangesValue, DscValue, SidecarValue}
use Rattle.records.specs.declared.fault.RecordFault.{RecordFault}
use Rattle.sums.proofs.Members.{here, there, which, from_map}
use Rattle.sums.specs.declared.entries.Entry.{Entry}
use Rattle.suites.proofs.ListMembers.{from_filter, only, from_filter_map}
use Rattle.suites.specs.Items.{FileWith, ItemWith, file_with, item_with}
use Rattle.suites.specs.Upload.{UploadValue, Part, parts, parts_with, dsc_parts, sidecar_parts, has_suffix, file_at, package_file, stem, source_item, binary_item, items_of}
use Rattle.suites.specs.declared.key.Kind.TheVariants.{Source, Binary}
use Rattle.suites.proofs.UploadFiles.{entry_named-Contains}
use Rattle.history.proofs.ContentsListed.{from_zip}

-- ---- members

map-cons_option : {Y Z : Type 0} (g : Y → Z) (o : Option Y) (ys : List Y) → map g (cons_option o ys) ≡ cons_option (option_map g o) (map g ys)
map-cons_option g None ys = refl
map-cons_option g (Some y) ys = refl

filter_map-same : {X Y Z : Type 0} (g : Y → Z) (h : X → Option Y) (k : X → Option Z) (xs : List X) → ((x : X) → Contains xs x → option_map g (h x) ≡ k x)
    → map g (filter_map h xs) ≡ filter_map k xs
filter_map-same g h k [] same = refl
filter_map-same g h k (x ∷ xs) same =
    map-cons_option g (h x) (filter_map h xs)
    ∙ ap₂ cons_option (same x (here x xs)) (filter_map-same g h k xs (λ y at. same y (there x y xs at)))

-- ---- entries

-- an entry that the .dsc of the upload lists
pub record IsInDsc (u : UploadValue) (e : Entry) : Type 0 where
  pub part : Part
  pub dsc : DscValue
  pub part_in : Contains (dsc_parts u) part
  pub read : dsc_in part.1 ≡ Ok dsc
  pub entry_in : Contains dsc.entries e

-- an entry of the .changes or of the .dsc
abbrev pub IsListedBy : UploadValue → Entry → Type 0
IsListedBy u e = Contains u.changes.entries e ⊎ IsInDsc u e

pub part_entry : (suffix : List ℕ) (u : UploadValue) (part : Part) → Contains (parts_with suffix u) part → Contains u.changes.entries part.0 × (has_suffix suffix part.0.name ≡ true)
unfolding parts_with
part_entry suffix u part at =
    let found = from_filter (λ (p : Part). has_suffix suffix p.0.name) part (parts u) at in
    ((from_zip part u.changes.entries u.texts found.0).0, found.1)

package_entry : (c : ChangesValue) (sidecar : List ℕ) (e : Entry) → Contains (option_to_list (package_file c.entries sidecar)) e → Contains c.entries e
unfolding package_file
package_entry c sidecar e at =
    (entry_named-Contains (stem (codes ".control") sidecar ++ codes ".deb") c.entries e (only (package_file c.entries sidecar) e at)).0

source_entry : (u : UploadValue) (part : Part) (d : DscValue) → Contains (dsc_parts u) part → dsc_in part.1 ≡ Ok d → (e : Entry) → Contains (part.0 ∷ d.entries) e → IsListedBy u e
source_entry u part d at read e listed = elim (which part.0 e d.entries listed) [
  | inl same ↦ inl (subst (λ (x : Entry). Contains u.changes.entries x) same (part_entry (codes ".dsc") u part at).0)
  | inr more ↦ inr (record { part = part; dsc = d; part_in = at; read = read; entry_in = more })
]

-- ---- items with other contents

module _ {C D : Type 0} (f : C → D) (contents : Entry → C) (other : Entry → D) where
  files_same : (c : ChangesValue) (component : List ℕ) (es : List Entry) → ((e : Entry) → Contains es e → f (contents e) ≡ other e)
      → map (file_with f) (map (file_at contents c component) es) ≡ map (file_at other c component) es
  files_same c component [] same = refl
  files_same c component (e ∷ es) same =
      let file : D → FileWith D = λ x. record { path = (file_at other c component e).path; contents = x } in
      ap₂ (λ x rest. file x ∷ rest) (same e (here e es)) (files_same c component es (λ x at. same x (there e x es at)))

  source_same : (u : UploadValue) (component : List ℕ) (part : Part) → ((e : Entry) → IsListedBy u e → f (contents e) ≡ other e) → Contains (dsc_parts u) part
      → (r : Result DscValue RecordFault) → dsc_in part.1 ≡ r
      → option_map (item_with f) (option_map (source_item contents u.changes component part) (result_ok r)) ≡ option_map (source_item other u.changes component part) (result_ok r)
  source_same u component part same at (Err e) read = refl
  source_same u component part same at (Ok d) read =
      let item : List (FileWith D) → ItemWith D = λ fs. record {
        kind = Source;
        «package» = u.changes.source;
        architecture = codes "source";
        version = d.version;
        component = component;
        source = u.changes.source;
        paragraph = part.1;
        files = fs;
      } in
      ap (λ fs. Some (item fs)) (files_same u.changes component (part.0 ∷ d.entries) (λ e listed. same e (source_entry u part d at read e listed)))

  binary_same : (u : UploadValue) (component : List ℕ) (part : Part) → ((e : Entry) → IsListedBy u e → f (contents e) ≡ other e)
      → (r : Result SidecarValue RecordFault)
      → option_map (item_with f) (option_map (binary_item contents u.changes component part) (result_ok r)) ≡ option_map (binary_item other u.changes component part) (result_ok r)
  binary_same u component part same (Err e) = refl
  binary_same u component part same (Ok s) =
      let item : List (FileWith D) → ItemWith D = λ fs. record {
        kind = Binary;
        «package» = s.name;
        architecture = s.architecture;
        version = s.version;
        component = component;
        source = u.changes.source;
        paragraph = part.1;
        files = fs;
      } in
      ap (λ fs. Some (item fs)) (files_same u.changes component (option_to_list (package_file u.changes.entries part.0.name)) (λ e listed. same e (inl (package_entry u.changes part.0.name e listed))))

  -- items of one upload by contents that agree on its entries
  pub items-same : (u : UploadValue) (component : List ℕ) → ((e : Entry) → IsListedBy u e → f (contents e) ≡ other e)
      → map (item_with f) (items_of contents u component) ≡ items_of other u component
  unfolding items_of
  items-same u component same =
      let sources = filter_map (λ (part : Part). option_map (source_item contents u.changes component part) (result_ok (dsc_in part.1))) (dsc_parts u) in
      let binaries = filter_map (λ (part : Part). option_map (binary_item contents u.changes component part) (result_ok (sidecar_in part.1))) (sidecar_parts u) in
      map-append (item_with f) sources binaries
      ∙ ap₂ (λ (a b : List (ItemWith D)). a ++ b)
      (filter_map-same (item_with f)
      (λ (part : Part). option_map (source_item contents u.changes component part) (result_ok (dsc_in part.1)))
      (λ (part : Part). option_map (source_item other u.changes component part) (result_ok (dsc_in part.1)))
      (dsc_parts u) (λ part at. source_same u component part same at (dsc_in part.1) refl))
      (filter_map-same (item_with f)
      (λ (part : Part). option_map (binary_item contents u.changes component part) (result_ok (sidecar_in part.1)))
      (λ (part : Part). option_map (binary_item other u.changes component part) (result_ok (sidecar_in part.1)))
      (sidecar_parts u) (λ part at. binary_same u component part same (sidecar_in part.1)))

-- ---- each file is that of an entry

module _ {C : Type 0} (contents : Entry → C) where
  -- the file is that of a listed entry
  abbrev pub IsListedFile : UploadValue → List ℕ → FileWith C → Type 0
  IsListedFile u component file = (e : Entry) × IsListedBy u e × (file_at contents u.changes component e ≡ file)

  file_listed : (u : UploadValue) (component : List ℕ) (es : List Entry) (file : FileWith C) → ((e : Entry) → Contains es e → IsListedBy u e)
      → Contains (map (file_at contents u.changes component) es) file → IsListedFile u component file
  file_listed u component es file listed at =
      let m = from_map (file_at contents u.changes component) file es at in
      (m.0, listed m.0 m.1, m.2)

  source_listed : (u : UploadValue) (component : List ℕ) (part : Part) (i : ItemWith C) (file : FileWith C) → Contains (dsc_parts u) part
      → (r : Result DscValue RecordFault) → dsc_in part.1 ≡ r → option_map (source_item contents u.changes component part) (result_ok r) ≡ Some i → Contains i.files file → IsListedFile u component file
  source_listed u component part i file at (Err e) read h k = cc
  source_listed u component part i file at (Ok d) read h k =
      file_listed u component (part.0 ∷ d.entries) file (source_entry u part d at read)
      (subst (λ (x : ItemWith C). Contains x.files file) (sym (same_Some (source_item contents u.changes component part d) i h)) k)

  binary_listed : (u : UploadValue) (component : List ℕ) (part : Part) (i : ItemWith C) (file : FileWith C)
      → (r : Result SidecarValue RecordFault) → option_map (binary_item contents u.changes component part) (result_ok r) ≡ Some i → Contains i.files file → IsListedFile u component file
  binary_listed u component part i file (Err e) h k = cc
  binary_listed u component part i file (Ok s) h k =
      file_listed u component (option_to_list (package_file u.changes.entries part.0.name)) file (λ e listed. inl (package_entry u.changes part.0.name e listed))
      (subst (λ (x : ItemWith C). Contains x.files file) (sym (same_Some (binary_item contents u.changes component part s) i h)) k)

  pub items_listed : (u : UploadValue) (component : List ℕ) (i : ItemWith C) (file : FileWith C) → Contains (items_of contents u component) i → Contains i.files file → IsListedFile u component file
  unfolding items_of
  items_listed u component i file at k =
      let sources = filter_map (λ (part : Part). option_map (source_item contents u.changes component part) (result_ok (dsc_in part.1))) (dsc_parts u) in
      let binaries = filter_map (λ (part : Part). option_map (binary_item contents u.changes component part) (result_ok (sidecar_in part.1))) (sidecar_parts u) in
      elim (Contains-append_cases sources binaries i at) [
        | inl p ↦
            let m = from_filter_map (λ (part : Part). option_map (source_item contents u.changes component part) (result_ok (dsc_in part.1))) i (dsc_parts u) p in
            source_listed u component m.0 i file m.1 (dsc_in (m.0).1) refl m.2 k
        | inr q ↦
            let m = from_filter_map (λ (part : Part). option_map (binary_item contents u.changes component part) (result_ok (sidecar_in part.1))) i (sidecar_parts u) q in
            binary_listed u component m.0 i file (sidecar_in (m.0).1) m.2 k
      ]
