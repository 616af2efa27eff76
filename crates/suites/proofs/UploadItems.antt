-- The items of an upload are those of the records that were read.
use Rattle.std.proofs.Common.{◌≡◌, ℕ, ◌+◌, ◌<◌, ◌≤◌, List, [], ◌∷◌, ◌++◌, length, take, get_or, map, Option, Some, None, Ok, option_map, option_to_list, filter_map, refl, sym, ap, ap₂, ◌∙◌, append_assoc, take_all}
use Rattle.std.specs.List.{All, cons_option}
use Rattle.std.specs.Result.{result_ok}
use Rattle.std.proofs.lemmas.List.{map-append, take_more}
use Rattle.std.proofs.lemmas.List.Elements.{All-head, All-tail}
use Rattle.records.specs.Records.{dsc_in, sidecar_in}
use Rattle.records.specs.Values.{ChangesValue, SidecarValue}
use Rattle.sums.specs.declared.print.Print.{Print}
use Rattle.suites.specs.Items.{ItemWith, item_of}
use Rattle.suites.specs.Judging.{AreParts, part_of}
use Rattle.suites.specs.Upload.{UploadValue, source_item, binary_item, items_of}
use Rattle.suites.specs.declared.item.Item.{Item}
use Rattle.suites.specs.declared.items.BinaryPart.{BinaryPart}
use Rattle.suites.specs.declared.items.SourcePart.{SourcePart}
use Rattle.suites.specs.declared.verdict.Parts.{Parts}

-- the item of the .dsc, if there is one
abbrev pub source_items : ChangesValue → List ℕ → Option SourcePart → List (ItemWith Print)
source_items c component source = map (λ s. source_item (λ e. e.print) c component (part_of s.part) s.dsc) (option_to_list source)

-- the items of the sidecars
abbrev pub binary_items : ChangesValue → List ℕ → List BinaryPart → List (ItemWith Print)
binary_items c component binaries = map (λ b. binary_item (λ e. e.print) c component (part_of b.part) b.sidecar) binaries

-- the text of the .dsc is the .dsc
abbrev pub IsRead : SourcePart → Type 0
IsRead s = dsc_in s.part.text.now ≡ Ok s.dsc

-- the text of the sidecar is the sidecar
abbrev pub IsSidecarRead : BinaryPart → Type 0
IsSidecarRead b = sidecar_in b.part.text.now ≡ Ok b.sidecar

source_given : (c : ChangesValue) (component : List ℕ) (source : Option SourcePart) → All IsRead (option_to_list source)
    → filter_map (λ part. option_map (source_item (λ e. e.print) c component part) (result_ok (dsc_in part.1))) (option_to_list (option_map (λ s. part_of s.part) source))
    ≡ source_items c component source
source_given c component None h = refl
source_given c component (Some s) h =
    ap (λ r. cons_option (option_map (source_item (λ e. e.print) c component (part_of s.part)) (result_ok r)) []) (All-head IsRead s [] h)

binaries_given : (c : ChangesValue) (component : List ℕ) (binaries : List BinaryPart) → All IsSidecarRead binaries
    → filter_map (λ part. option_map (binary_item (λ e. e.print) c component part) (result_ok (sidecar_in part.1))) (map (λ b. part_of b.part) binaries)
    ≡ binary_items c component binaries
binaries_given c component [] h = refl
binaries_given c component (b ∷ rest) h =
    ap₂ (λ r items. cons_option (option_map (binary_item (λ e. e.print) c component (part_of b.part)) (result_ok r)) items)
    (All-head IsSidecarRead b rest h) (binaries_given c component rest (All-tail IsSidecarRead b rest h))

pub items_from_parts : (u : UploadValue) (component : List ℕ) (found : Parts) → AreParts u found
    → items_of (λ e. e.print) u component ≡ source_items u.changes component found.source ++ binary_items u.changes component found.binaries.items
unfolding items_of
items_from_parts u component found parts =
    ap₂ (λ (a b : List (ItemWith Print)). a ++ b)
    (ap (filter_map (λ part. option_map (source_item (λ e. e.print) u.changes component part) (result_ok (dsc_in part.1)))) parts.source
    ∙ source_given u.changes component found.source parts.dsc)
    (ap (filter_map (λ part. option_map (binary_item (λ e. e.print) u.changes component part) (result_ok (sidecar_in part.1)))) parts.binaries
    ∙ binaries_given u.changes component found.binaries.items parts.sidecars)

-- the sidecars of an upload are those that were read
pub sidecars_read : (binaries : List BinaryPart) → All IsSidecarRead binaries
    → filter_map (λ part. result_ok (sidecar_in part.1)) (map (λ b. part_of b.part) binaries) ≡ map (λ b. b.sidecar) binaries
sidecars_read [] h = refl
sidecars_read (b ∷ rest) h =
    ap₂ (λ r (ss : List SidecarValue). cons_option (result_ok r) ss) (All-head IsSidecarRead b rest h) (sidecars_read rest (All-tail IsSidecarRead b rest h))

-- the items so far with that of one more sidecar
pub items_more : (c : ChangesValue) (component : List ℕ) (source : Option SourcePart) (binaries : List BinaryPart) (i : ℕ) (b : BinaryPart) (items : List Item) (item : Item)
    → i < length binaries → b ≡ get_or binaries i b → items ≡ map item_of (source_items c component source ++ binary_items c component (take i binaries))
    → item ≡ item_of (binary_item (λ e. e.print) c component (part_of b.part) b.sidecar)
    → items ++ item ∷ [] ≡ map item_of (source_items c component source ++ binary_items c component (take (i + 1) binaries))
items_more c component source binaries i b items item within is so_far made =
    let before : List (ItemWith Print) = source_items c component source in
    let given : BinaryPart → ItemWith Print = λ b. binary_item (λ e. e.print) c component (part_of b.part) b.sidecar in
    let next : given b ≡ given (get_or binaries i b) = ap given is in
    let more : map given (take (i + 1) binaries) ≡ map given (take i binaries) ++ given b ∷ [] =
    ap (map given) (take_more binaries i b within) ∙ map-append given (take i binaries) (get_or binaries i b ∷ []) ∙ ap (λ x. map given (take i binaries) ++ x ∷ []) (sym next) in
    ap₂ (λ (xs : List Item) (x : Item). xs ++ x ∷ []) so_far made
    ∙ sym (map-append item_of (before ++ map given (take i binaries)) (given b ∷ []))
    ∙ ap (map item_of) (append_assoc before (map given (take i binaries)) (given b ∷ []))
    ∙ ap (λ xs. map item_of (before ++ xs)) (sym more)

-- the items of all the sidecars
pub items_all : (u : UploadValue) (component : List ℕ) (found : Parts) (i : ℕ) (items : List Item) → AreParts u found → length found.binaries.items ≤ i
    → items ≡ map item_of (source_items u.changes component found.source ++ binary_items u.changes component (take i found.binaries.items))
    → items ≡ map item_of (items_of (λ e. e.print) u component)
items_all u component found i items parts all so_far =
    so_far
    ∙ ap (λ bs. map item_of (source_items u.changes component found.source ++ binary_items u.changes component bs)) (take_all i found.binaries.items all)
    ∙ ap (map item_of) (sym (items_from_parts u component found parts))
