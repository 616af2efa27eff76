-- What the lists of an accepted upload say of its files.
use Rattle.std.proofs.Common.{◌≡◌, ◌⊎◌, ℕ, Bool, true, false, cond, not, ◌&&◌, List, [], ◌++◌, Option, Some, None, is_some, unwrap_or, refl, sym, ap, ◌∙◌, subst, inl, inr, arith}
use Rattle.std.specs.Prelude.{Contains}
use Rattle.std.specs.FinMap.{get}
use Rattle.std.specs.List.{list_any}
use Rattle.std.specs.Option.{option_map_or, option_or}
use Rattle.records.specs.Records.{dsc_in, dsc_within}
use Rattle.records.specs.Values.{ChangesValue, DscValue}
use Rattle.rules.specs.Judgement.{rule_rows, suite_of, suite_rows}
use Rattle.rules.specs.Sizes.{largest}
use Rattle.rules.specs.Values.{ConfigValue}
use Rattle.rules.specs.Verdicts.{Row, first_row}
use Rattle.rules.specs.declared.suite.Suite.{Suite}
use Rattle.rules.specs.declared.verdict.Verdict.{Verdict}
use Rattle.rules.specs.declared.verdict.Verdict.TheVariants as verdict
use Rattle.sums.proofs.Booleans.{passed}
use Rattle.sums.proofs.Members.{there, any_false}
use Rattle.sums.specs.Prints.{print as print_of, same_print}
use Rattle.sums.specs.declared.entries.Entry.{Entry}
use Rattle.suites.proofs.AcceptedLists.{at_ok, both_listed}
use Rattle.suites.proofs.Joining.{row_passed}
use Rattle.suites.proofs.Prints.{same_print-equal}
use Rattle.suites.proofs.RecordTexts.{dsc-within, dsc-names}
use Rattle.suites.specs.Pool.{PoolWith}
use Rattle.suites.specs.Upload.{UploadValue, Part, dsc_parts, entry_named}
use Rattle.suites.specs.Verdict.{Telling, differs_from_dsc, has_bad_dsc, has_bad_listing, has_bad_sidecar, has_other_contents, is_missing_file, lacks_source_file, match_ok, path_of, upload_rows, verdict_with}
use Rattle.history.specs.Archives.{WholeUpload, by_body, contents_of, listed_body}
use Rattle.history.proofs.ContentsListed.{HasItsBodies, HasNoListed, listed_cases, entry_body}
use Rattle.history.proofs.ItemPrintsFiles.{IsInDsc, IsListedBy}

-- ---- no row applies

none_of_suite : (foreign banned other : Bool) (rest : Verdict)
    → cond foreign verdict.ForeignArchitecture (cond banned verdict.NotAllowed (cond other verdict.ForeignComponent rest)) ≡ verdict.Accepted → rest ≡ verdict.Accepted
none_of_suite true banned other rest h = cc
none_of_suite false true other rest h = cc
none_of_suite false false true rest h = cc
none_of_suite false false false rest h = h

past_suite : (o : Option Suite) (c : ChangesValue) (rest : List Row) → first_row (option_map_or (λ s. suite_rows s c) o [] ++ rest) ≡ verdict.Accepted → first_row rest ≡ verdict.Accepted
unfolding suite_rows
past_suite None c rest h = h
past_suite (Some s) c rest h = none_of_suite _ _ _ (first_row rest) h

past_rules : (config : ConfigValue) (c : ChangesValue) (rest : List Row) → first_row (rule_rows config c ++ rest) ≡ verdict.Accepted → first_row rest ≡ verdict.Accepted
past_rules config c rest h =
    past_suite (suite_of config c) c rest (row_passed _ verdict.Unclaimed _ (λ e. absurd (omega (arith, e))) h).1

-- no row of the verdicts 6 to 9 applies
pub record NoRowApplies {C : Type 0} (tell : Telling C) (files : PoolWith C) (most : ℕ) (u : UploadValue) : Type 0 where
  pub dsc : has_bad_dsc most u ≡ false
  pub sidecar : has_bad_sidecar u ≡ false
  pub missing : lacks_source_file tell files u ≡ false
  pub taken : has_other_contents tell files u ≡ false

pub no_row_applies : {C : Type 0} (tell : Telling C) (files : PoolWith C) (config : ConfigValue) (u : UploadValue) → verdict_with tell files config u ≡ verdict.Accepted → NoRowApplies tell files (largest config) u
no_row_applies tell files config u h =
    let listing = row_passed (has_bad_listing u.changes) verdict.BadListing _ (λ e. absurd (omega (arith, e))) (past_rules config u.changes (upload_rows tell files (largest config) u) h) in
    let dsc = row_passed (has_bad_dsc (largest config) u) verdict.BadDsc _ (λ e. absurd (omega (arith, e))) listing.1 in
    let sidecar = row_passed (has_bad_sidecar u) verdict.BadSidecar _ (λ e. absurd (omega (arith, e))) dsc.1 in
    let missing = row_passed (lacks_source_file tell files u) verdict.NotInPool _ (λ e. absurd (omega (arith, e))) sidecar.1 in
    let taken = row_passed (has_other_contents tell files u) verdict.OtherContents verdict.Accepted (λ e. absurd (omega (arith, e))) missing.1 in
    record { dsc = dsc.0; sidecar = sidecar.0; missing = missing.0; taken = taken.0 }

-- ---- what the .dsc lists

good_dsc : (most : ℕ) (u : UploadValue) (f : Entry) (in_dsc : IsInDsc u f) → has_bad_dsc most u ≡ false → differs_from_dsc u.changes in_dsc.part.0.name in_dsc.dsc ≡ false
unfolding has_bad_dsc
good_dsc most u f s h =
    dsc-within most s.part.1 s.dsc (differs_from_dsc u.changes s.part.0.name) s.read
    (any_false (λ (part : Part). match_ok (dsc_within most part.1) (differs_from_dsc u.changes part.0.name)) (dsc_parts u) s.part h s.part_in)

none_missing : {C : Type 0} (tell : Telling C) (files : PoolWith C) (u : UploadValue) (f : Entry) → IsInDsc u f → lacks_source_file tell files u ≡ false → is_missing_file tell files u.changes f ≡ false
unfolding lacks_source_file
none_missing tell files u f s h =
    any_false (is_missing_file tell files u.changes) s.dsc.entries f
    (at_ok (λ (d : DscValue). list_any (is_missing_file tell files u.changes) d.entries) s.dsc (dsc_in s.part.1) s.read
    (any_false (λ (part : Part). match_ok (dsc_in part.1) (λ d. list_any (is_missing_file tell files u.changes) d.entries)) (dsc_parts u) s.part h s.part_in))
    s.entry_in

-- ---- the contents of a listed file

-- The contents of the entry's file have its print, and are a body that the upload brings or that of the pool at its path.
pub record HasContents (w : WholeUpload) (files : PoolWith (List ℕ)) (e : Entry) : Type 0 where
  pub print : print_of (contents_of w files e) ≡ e.print
  pub from : Contains w.bodies (contents_of w files e) ⊎ (get files (path_of w.upload.changes e) ≡ Some (contents_of w files e))

brought : (w : WholeUpload) (files : PoolWith (List ℕ)) (e : Entry) (body : List ℕ) → listed_body w e.name ≡ Some body → body ≡ contents_of w files e
unfolding contents_of
brought w files e body h = sym (ap (λ o. unwrap_or (option_or o (get files (path_of w.upload.changes e))) []) h)

pooled : (w : WholeUpload) (files : PoolWith (List ℕ)) (e : Entry) (body : List ℕ) → listed_body w e.name ≡ None → get files (path_of w.upload.changes e) ≡ Some body → body ≡ contents_of w files e
unfolding contents_of
pooled w files e body h held =
    sym (ap (λ o. unwrap_or (option_or o (get files (path_of w.upload.changes e))) []) h ∙ ap (λ o. unwrap_or o []) held)

has_brought : (w : WholeUpload) (files : PoolWith (List ℕ)) (e : Entry) (body : List ℕ) → listed_body w e.name ≡ Some body → Contains w.bodies body → print_of body ≡ e.print → HasContents w files e
has_brought w files e body h at print =
    let is = brought w files e body h in
    record { print = ap print_of (sym is) ∙ print; from = inl (subst (λ b. Contains w.bodies b) is at) }

changes_contents : (w : WholeUpload) (files : PoolWith (List ℕ)) (e : Entry) → HasItsBodies w → Contains w.upload.changes.entries e → HasContents w files e
changes_contents w files e whole at =
    let mine = entry_body w e whole at in
    has_brought w files e mine.body mine.found mine.body_in mine.print

in_pool : (w : WholeUpload) (files : PoolWith (List ℕ)) (f : Entry) (held : Option (List ℕ)) → get files (path_of w.upload.changes f) ≡ held → listed_body w f.name ≡ None
    → option_map_or (λ there. same_print (print_of there) f.print) held false ≡ true → HasContents w files f
in_pool w files f None held none h = cc
in_pool w files f (Some there) held none h =
    let is = pooled w files f there none held in
    record {
      print = ap print_of (sym is) ∙ same_print-equal (print_of there) f.print h;
      from = inr (held ∙ ap Some is);
    }

not_missing : (named : Option Entry) (held : Bool) → named ≡ None → (not (is_some named) && not held) ≡ false → held ≡ true
not_missing None held none h = passed held h
not_missing (Some e) held none h = cc

pool_contents : (w : WholeUpload) (files : PoolWith (List ℕ)) (f : Entry) → HasNoListed w f.name → is_missing_file (by_body w) files w.upload.changes f ≡ false → HasContents w files f
unfolding is_missing_file
pool_contents w files f none h =
    in_pool w files f (get files (path_of w.upload.changes f)) refl none.found
    (not_missing (entry_named f.name w.upload.changes.entries) _ none.named h)

dsc_contents : (most : ℕ) (w : WholeUpload) (files : PoolWith (List ℕ)) (f : Entry) → HasItsBodies w → NoRowApplies (by_body w) files most w.upload → IsInDsc w.upload f → HasContents w files f
dsc_contents most w files f whole rows s = elim (listed_cases w f.name whole) [
  | inl l ↦ has_brought w files f l.body l.found l.body_in
      (l.print ∙ both_listed w.upload.changes s.part.0.name s.dsc l.entry f (good_dsc most w.upload f s rows.dsc) (dsc-names s.part.1 s.dsc s.read) l.entry_in s.entry_in l.name_is)
  | inr n ↦ pool_contents w files f n (none_missing (by_body w) files w.upload f s rows.missing)
]

-- the contents of each file that an accepted upload lists
pub listed_contents : (most : ℕ) (w : WholeUpload) (files : PoolWith (List ℕ)) (e : Entry) → HasItsBodies w → NoRowApplies (by_body w) files most w.upload → IsListedBy w.upload e → HasContents w files e
listed_contents most w files e whole rows (inl at) = changes_contents w files e whole at
listed_contents most w files e whole rows (inr s) = dsc_contents most w files e whole rows s
