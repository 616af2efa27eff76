-- The items of an accepted upload may join what is shown.
use Rattle.std.proofs.Common.{◌≡◌, ◌≢◌, ℕ, Bool, true, false, cond, Ok, filter_map, List, [], ◌∷◌, ◌++◌, map, refl, sym, ap, ◌∙◌, subst, inl, inr, arith}
use Rattle.std.specs.Prelude.{All, Contains}
use Rattle.std.specs.List.{list_any}
use Rattle.std.specs.Result.{result_ok}
use Rattle.std.specs.FinMap.{values}
use Rattle.std.proofs.lemmas.List.Elements.{Contains-append_cases}
use Rattle.records.specs.Records.{sidecar_in}
use Rattle.rules.specs.Judgement.{component}
use Rattle.rules.specs.Verdicts.{first_row, number_of}
use Rattle.rules.specs.declared.verdict.Verdict.{Verdict}
use Rattle.rules.specs.declared.verdict.Verdict.TheVariants as verdict
use Rattle.sums.proofs.Booleans.{neither}
use Rattle.sums.specs.declared.entries.Entry.{Entry}
use Rattle.sums.specs.declared.print.Print.{Print}
use Rattle.suites.specs.Admission.{MayJoin}
use Rattle.suites.specs.Items.{item_of, standing}
use Rattle.suites.specs.Judging.{AreParts, part_of}
use Rattle.suites.specs.Pool.{AreAgreed, files_of}
use Rattle.suites.specs.Shelves.{ShelvesValue, AreSound, pool}
use Rattle.suites.specs.Upload.{UploadValue, Part, IsUpload, items_of, sidecar_parts}
use Rattle.suites.specs.Verdict.{by_print, upload_rows, has_bad_listing, has_bad_dsc, has_bad_sidecar, lacks_source_file, has_other_contents, have_twins, match_ok, differs_from_sidecar}
use Rattle.suites.specs.declared.item.Item.{Item}
use Rattle.suites.specs.declared.items.BinaryPart.{BinaryPart}
use Rattle.suites.specs.declared.verdict.Parts.{Parts}
use Rattle.suites.proofs.AcceptedLists.{lists_agree, is_dsc_listed}
use Rattle.suites.proofs.Apart.{items_apart}
use Rattle.suites.proofs.ListedFiles.{dsc_entries, items_file, IsGiven}
use Rattle.suites.proofs.UploadFiles.{ListsAgree, same_path-same_print, shown_print}
use Rattle.suites.proofs.UploadItems.{items_from_parts, source_items, binary_items, sidecars_read}

-- ---- no row applies

pub row_passed : (b : Bool) (v rest : Verdict) → number_of v ≢ 0 → cond b v rest ≡ verdict.Accepted → (b ≡ false) × (rest ≡ verdict.Accepted)
row_passed true v rest refusal e = absurd (refusal (ap number_of e))
row_passed false v rest refusal e = (refl, e)

-- no row of the verdicts 5 to 9 applies, if a file has at most `most` bytes
pub record NoRowApplies (most : ℕ) (shelves : ShelvesValue) (u : UploadValue) : Type 0 where
  pub listing : has_bad_listing u.changes ≡ false
  pub dsc : has_bad_dsc most u ≡ false
  pub sidecar : has_bad_sidecar u ≡ false
  pub missing : lacks_source_file by_print (pool shelves) u ≡ false
  pub taken : has_other_contents by_print (pool shelves) u ≡ false

pub no_row_applies : (most : ℕ) (shelves : ShelvesValue) (u : UploadValue) → first_row (upload_rows by_print (pool shelves) most u) ≡ verdict.Accepted → NoRowApplies most shelves u
no_row_applies most shelves u h =
    let listing = row_passed (has_bad_listing u.changes) verdict.BadListing _ (λ e. absurd (omega (arith, e))) h in
    let dsc = row_passed (has_bad_dsc most u) verdict.BadDsc _ (λ e. absurd (omega (arith, e))) listing.1 in
    let sidecar = row_passed (has_bad_sidecar u) verdict.BadSidecar _ (λ e. absurd (omega (arith, e))) dsc.1 in
    let missing = row_passed (lacks_source_file by_print (pool shelves) u) verdict.NotInPool _ (λ e. absurd (omega (arith, e))) sidecar.1 in
    let taken = row_passed (has_other_contents by_print (pool shelves) u) verdict.OtherContents verdict.Accepted (λ e. absurd (omega (arith, e))) missing.1 in
    record { listing = listing.0; dsc = dsc.0; sidecar = sidecar.0; missing = missing.0; taken = taken.0 }

no_twins : (u : UploadValue) (binaries : List BinaryPart) → sidecar_parts u ≡ map (λ b. part_of b.part) binaries → All (λ b. sidecar_in b.part.text.now ≡ Ok b.sidecar) binaries
    → has_bad_sidecar u ≡ false → have_twins (map (λ b. b.sidecar) binaries) ≡ false
unfolding has_bad_sidecar
no_twins u binaries parts read h =
    ap have_twins (sym (ap (filter_map (λ (part : Part). result_ok (sidecar_in part.1))) parts ∙ sidecars_read binaries read))
    ∙ (neither (list_any (λ (part : Part). match_ok (sidecar_in part.1) (differs_from_sidecar u.changes part.0.name)) (sidecar_parts u))
    (have_twins (filter_map (λ (part : Part). result_ok (sidecar_in part.1)) (sidecar_parts u))) h).1

-- ---- at each path the same contents

standing_items : (suite : ℕ) (items : List Item) → map (λ a. a.1) (map (standing suite) items) ≡ items
standing_items suite [] = refl
standing_items suite (item ∷ items) = ap (λ rest. item ∷ rest) (standing_items suite items)

given_shown : (shelves : ShelvesValue) (u : UploadValue) (entries : List Entry) (path : List ℕ) (a b : Print) → ListsAgree shelves u.changes entries → AreAgreed (files_of (values shelves))
    → Contains (files_of (values shelves)) (path, a) → IsGiven u.changes entries (path, b) → a ≡ b
given_shown shelves u entries path a b lists sound shown (e, file, is) =
    shown_print shelves u.changes entries e a lists sound file (subst (λ p. Contains (files_of (values shelves)) (p, a)) (sym (ap (λ f. f.0) is)) shown) ∙ ap (λ f. f.1) is

both_given : (shelves : ShelvesValue) (u : UploadValue) (entries : List Entry) (path : List ℕ) (a b : Print) → ListsAgree shelves u.changes entries
    → IsGiven u.changes entries (path, a) → IsGiven u.changes entries (path, b) → a ≡ b
both_given shelves u entries path a b lists (e, file, is) (f, other, has) =
    sym (ap (λ x. x.1) is) ∙ same_path-same_print shelves u.changes entries e f lists file other (ap (λ x. x.0) is ∙ sym (ap (λ x. x.0) has)) ∙ ap (λ x. x.1) has

agreed_with : (shelves : ShelvesValue) (u : UploadValue) (entries : List Entry) (files : List (List ℕ × Print)) → ListsAgree shelves u.changes entries → AreAgreed (files_of (values shelves))
    → ((f : List ℕ × Print) → Contains files f → IsGiven u.changes entries f) → AreAgreed (files_of (values shelves) ++ files)
agreed_with shelves u entries files lists sound given path a b p q =
    elim (Contains-append_cases (files_of (values shelves)) files (path, a) p) [
      | inl shown ↦ elim (Contains-append_cases (files_of (values shelves)) files (path, b) q) [
        | inl also ↦ sound path a b shown also
        | inr new ↦ given_shown shelves u entries path a b lists sound shown (given (path, b) new)
      ]
      | inr new ↦ elim (Contains-append_cases (files_of (values shelves)) files (path, b) q) [
        | inl shown ↦ sym (given_shown shelves u entries path b a lists sound shown (given (path, a) new))
        | inr also ↦ both_given shelves u entries path a b lists (given (path, a) new) (given (path, b) also)
      ]
    ]

-- THE ITEMS of an accepted upload may join what is shown, in any suite.
pub may_join : (most : ℕ) (shelves : ShelvesValue) (u : UploadValue) (found : Parts) (suite : ℕ) → AreSound shelves → IsUpload u → AreParts u found
    → first_row (upload_rows by_print (pool shelves) most u) ≡ verdict.Accepted
    → MayJoin shelves (map (standing suite) (map item_of (items_of (λ e. e.print) u (component u.changes))))
may_join most shelves u found suite sound upload parts accepted =
    let rows = no_row_applies most shelves u accepted in
    let lists = lists_agree most shelves u found.source upload.names parts.source parts.dsc rows.dsc rows.missing rows.taken in
    subst (λ items. MayJoin shelves (map (standing suite) (map item_of items))) (sym (items_from_parts u (component u.changes) found parts)) (record {
      apart = items_apart suite u.changes (component u.changes) found.source found.binaries.items (no_twins u found.binaries.items parts.binaries parts.sidecars rows.sidecar);
      agreed = subst (λ items. AreAgreed (files_of (values shelves) ++ files_of items))
          (sym (standing_items suite (map item_of (source_items u.changes (component u.changes) found.source ++ binary_items u.changes (component u.changes) found.binaries.items))))
          (agreed_with shelves u (dsc_entries found.source) (files_of (map item_of (source_items u.changes (component u.changes) found.source ++ binary_items u.changes (component u.changes) found.binaries.items)))
          lists sound.agreed (λ f h. items_file u.changes found.source found.binaries.items f (is_dsc_listed u found.source parts.source) h));
    })
