-- The rows of verdicts 5, 6 and 7, by what they name.
use Rattle.std.proofs.Common.{◌≡◌, ℕ, suc, ◌==◌, Bool, true, false, not, ◌&&◌, ◌||◌, List, [], ◌∷◌, filter, length, codes, refl, sym, ap, ◌∙◌, arith}
use Rattle.std.specs.Prelude.{find, is_some, nat_lt, slice_get, if◌then◌else◌, Option, None, Some}
use Rattle.std.specs.List.{list_all}
use Rattle.std.proofs.lemmas.Bool.Decides.{nat_tests}
use Rattle.std.proofs.lemmas.List.Folds.{list_all-map}
use Rattle.records.specs.Records.{is_among}
use Rattle.records.specs.Values.{ChangesValue, DscValue, SidecarValue}
use Rattle.sums.specs.declared.entries.Entry.{Entry}
use Rattle.suites.specs.Upload.{has_suffix, stem}
use Rattle.suites.specs.Verdict.{are_among, differs_from_dsc, dsc_file, has_bad_listing, has_entry, has_source, have_twins, is_package_part, is_same_package, names_of, names_with, stems}
use Rattle.std.specs.Str.{bytes_eq}
use Rattle.suites.proofs.ListTests.{list_all-filter_not, same_any, not_either}
use Rattle.suites.proofs.Stems.{counted, paired}
use Rattle.reasons.specs.Named.{is_lone, is_unlisted, lacks_dsc, listed_changes, listed_part, lone_file, source_file, surplus_dsc, beside, twins, unlisted_file}
use Rattle.reasons.proofs.Searches.{counted_where, found_where, not_all, not_unless}

-- the number of listed files is not the one that is wanted, which is one or none
off_by : (s : Bool) (xs : List Entry) → not (length xs == (if s then 1 else 0)) ≡ (is_some (slice_get xs (if s then 1 else 0)) || (s && not (nat_lt 0 (length xs))))
off_by true [] = refl
off_by true (x ∷ []) = refl
off_by true (x ∷ y ∷ xs) = more (length xs)
  where
    more : (n : ℕ) → not (suc (suc n) == 1) ≡ true
    more n = grind (arith, nat_tests)
off_by false [] = refl
off_by false (x ∷ xs) = more (length xs)
  where
    more : (n : ℕ) → not (suc n == 0) ≡ true
    more n = grind (arith, nat_tests)

a_changes : (c : ChangesValue) → nat_lt 0 (length (names_with (codes ".changes") c.entries)) ≡ is_some (listed_changes c)
a_changes c =
    ap (nat_lt 0) (sym (counted (codes ".changes") c.entries))
    ∙ counted_where (λ e. has_suffix (codes ".changes") e.name) c.entries
    ∙ found_where (λ e. has_suffix (codes ".changes") e.name) c.entries

a_dsc : (c : ChangesValue) → not (length (names_with (codes ".dsc") c.entries) == (if has_source c then 1 else 0)) ≡ (is_some (surplus_dsc c) || lacks_dsc c)
unfolding lacks_dsc
a_dsc c =
    let test : Entry → Bool = λ e. has_suffix (codes ".dsc") e.name in
    ap (λ n. not (n == (if has_source c then 1 else 0))) (sym (counted (codes ".dsc") c.entries))
    ∙ off_by (has_source c) (filter test c.entries)
    ∙ ap (λ b. is_some (surplus_dsc c) || (has_source c && not b)) (counted_where test c.entries)

a_lone : (ending other : List ℕ) (entries : List Entry) → not (are_among (stems ending entries) (stems other entries)) ≡ is_some (lone_file ending other entries)
unfolding is_lone
a_lone ending other entries =
    ap not (sym (paired ending other entries))
    ∙ not_all (λ e. not (has_suffix ending e.name) || is_among (stems other entries) (stem ending e.name)) entries
    ∙ same_any _ _ (λ e. not_unless (has_suffix ending e.name) (is_among (stems other entries) (stem ending e.name))) entries
    ∙ found_where (is_lone ending other entries) entries

a_source_file : (c : ChangesValue) → (not (has_source c) && not (list_all is_package_part (names_of c.entries))) ≡ is_some (source_file c)
unfolding source_file
a_source_file c = by_case (has_source c)
  where
    found : not (list_all is_package_part (names_of c.entries)) ≡ is_some (find (λ e. not (is_package_part e.name)) c.entries)
    found =
        ap not (list_all-map is_package_part (λ e. e.name) c.entries)
        ∙ not_all (λ e. is_package_part e.name) c.entries
        ∙ found_where (λ e. not (is_package_part e.name)) c.entries

    by_case : (s : Bool) → (not s && not (list_all is_package_part (names_of c.entries))) ≡ is_some (if s then None else find (λ e. not (is_package_part e.name)) c.entries)
    by_case true = refl
    by_case false = found

pub bad_listing : (c : ChangesValue) → has_bad_listing c ≡ (is_some (listed_changes c) || (is_some (surplus_dsc c) || lacks_dsc c)
    || is_some (lone_file (codes ".deb") (codes ".control") c.entries) || is_some (lone_file (codes ".control") (codes ".deb") c.entries)
    || is_some (source_file c))
unfolding has_bad_listing
bad_listing c = λ i. a_changes c i || a_dsc c i || a_lone (codes ".deb") (codes ".control") c.entries i || a_lone (codes ".control") (codes ".deb") c.entries i || a_source_file c i

an_unlisted : (c : ChangesValue) (d : DscValue) → not (list_all (has_entry d.entries) (filter (λ e. not (is_package_part e.name)) c.entries)) ≡ is_some (unlisted_file c d)
unfolding is_unlisted
an_unlisted c d =
    ap not (list_all-filter_not (has_entry d.entries) (λ e. is_package_part e.name) c.entries)
    ∙ not_all (λ e. is_package_part e.name || has_entry d.entries e) c.entries
    ∙ same_any _ _ (λ e. not_either (is_package_part e.name) (has_entry d.entries e)) c.entries
    ∙ found_where (is_unlisted d) c.entries

pub other_dsc : (c : ChangesValue) (name : List ℕ) (d : DscValue) → differs_from_dsc c name d ≡ (not (bytes_eq d.source c.source)
    || not (bytes_eq d.version c.version) || not (bytes_eq name (dsc_file d)) || is_some (listed_part d) || is_some (unlisted_file c d))
unfolding differs_from_dsc
other_dsc c name d = λ i. not (bytes_eq d.source c.source) || not (bytes_eq d.version c.version) || not (bytes_eq name (dsc_file d))
    || found_where (λ (e : Entry). is_package_part e.name) d.entries i || an_unlisted c d i

pub two_alike : (sidecars : List SidecarValue) → have_twins sidecars ≡ is_some (twins sidecars)
two_alike [] = refl
two_alike (s ∷ rest) =
    (λ i. found_where (is_same_package s) rest i || two_alike rest i) ∙ by_case (find (is_same_package s) rest)
  where
    by_case : (o : Option SidecarValue) → (is_some o || is_some (twins rest)) ≡ is_some (beside s o (twins rest))
    by_case None = refl
    by_case (Some twin) = refl
