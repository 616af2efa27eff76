-- The names that a .changes lists.
use Rattle.std.proofs.Common.{◌≡◌, ℕ, Bool, not, ◌&&◌, ◌||◌, List, ◌++◌, length, refl, sym, ap, ◌∙◌, arith}
use Rattle.std.proofs.lemmas.Bool.{and_parts, and_from}
use Rattle.std.proofs.lemmas.Bool.Decides.{same_from_decides, Decides-eqb}
use Rattle.std.proofs.lemmas.Grind.{common_steps}
use Rattle.std.proofs.lemmas.List.{length-map}
use Rattle.std.proofs.lemmas.List.Folds.{list_all-map}
use Rattle.std.proofs.lemmas.Slice.Eq.{bytes_eq-Decides, ends_is}
use Rattle.std.specs.List.{find, filter, list_any, list_all}
use Rattle.std.specs.Str.{bytes_eq}
use Rattle.records.specs.Records.{is_among}
use Rattle.sums.specs.declared.entries.Entry.{Entry}
use Rattle.sums.proofs.Words.{list_any-map}
use Rattle.suites.specs.Upload.{has_suffix, stem, entry_named}
use Rattle.suites.specs.Verdict.{names_of, names_with, stems, are_among}
use Rattle.suites.proofs.ListTests.{same_find, filter-map, list_any-filter, list_all-filter}

pub counted : (suffix : List ℕ) (entries : List Entry) → length (filter (λ e. has_suffix suffix e.name) entries) ≡ length (names_with suffix entries)
unfolding names_with
counted suffix entries = sym (ap length (filter-map (has_suffix suffix) (λ e. e.name) entries) ∙ length-map (filter (λ e. has_suffix suffix e.name) entries) (λ e. e.name))

-- a front is among the stems if and only if some name is the front and then the suffix
pub among_stems : (suffix : List ℕ) (entries : List Entry) (front : List ℕ)
    → is_among (stems suffix entries) front ≡ list_any (λ e. has_suffix suffix e.name && bytes_eq front (stem suffix e.name)) entries
unfolding stems names_with
among_stems suffix entries front =
    list_any-map (stem suffix) (bytes_eq front) (filter (has_suffix suffix) (names_of entries))
    ∙ list_any-filter (λ name. bytes_eq front (stem suffix name)) (has_suffix suffix) (names_of entries)
    ∙ list_any-map (λ e. e.name) (λ name. has_suffix suffix name && bytes_eq front (stem suffix name)) entries

all_stems : (suffix : List ℕ) (entries : List Entry) (test : List ℕ → Bool)
    → list_all test (stems suffix entries) ≡ list_all (λ e. not (has_suffix suffix e.name) || test (stem suffix e.name)) entries
unfolding stems names_with
all_stems suffix entries test =
    list_all-map test (stem suffix) (filter (has_suffix suffix) (names_of entries))
    ∙ list_all-filter (λ name. test (stem suffix name)) (has_suffix suffix) (names_of entries)
    ∙ list_all-map (λ name. not (has_suffix suffix name) || test (stem suffix name)) (λ e. e.name) entries

pub paired : (suffix other : List ℕ) (entries : List Entry)
    → list_all (λ e. not (has_suffix suffix e.name) || is_among (stems other entries) (stem suffix e.name)) entries ≡ are_among (stems suffix entries) (stems other entries)
unfolding are_among
paired suffix other entries = sym (all_stems suffix entries (is_among (stems other entries)))

pub front_of_joined : (suffix front name : List ℕ) → name ≡ front ++ suffix → front ≡ stem suffix name
front_of_joined suffix front name e = rw e (grind (arith, common_steps))

-- a name is a front and then a suffix
pub joined : (suffix front name : List ℕ) → (has_suffix suffix name && bytes_eq front (stem suffix name)) ≡ bytes_eq name (front ++ suffix)
unfolding has_suffix
joined suffix front name =
    let ends = ends_is Decides-eqb name suffix (has_suffix suffix name) refl in
    let same = bytes_eq-Decides front (stem suffix name) in
    let whole = bytes_eq-Decides name (front ++ suffix) in
    same_from_decides {P = name ≡ front ++ suffix} _ _ (
      (λ b. let parts = and_parts _ _ b in ends.0 parts.0 ∙ ap (λ f. f ++ suffix) (sym (same.0 parts.1))),
      (λ e. and_from _ _ (ends.1 front e) (same.1 (front_of_joined suffix front name e))),
    ) whole

pub package_found : (entries : List Entry) (sidecar front suffix : List ℕ)
    → find (λ e. has_suffix suffix e.name && bytes_eq front (stem suffix e.name)) entries ≡ entry_named (front ++ suffix) entries
unfolding entry_named
package_found entries sidecar front suffix = same_find _ _ (λ e. joined suffix front e.name) entries
