-- Whatever refuses an upload, something is named.
use Rattle.std.proofs.Common.{◌≡◌, ◌≢◌, Bool, true, false, cond, List, [], ◌∷◌, ◌++◌, Option, Some, None, refl, sym, ap, ◌∙◌}
use Rattle.std.specs.List.{AllByRecursion}
use Rattle.std.specs.Option.{option_map_or}
use Rattle.std.specs.Prelude.{is_none, is_some, option_and_then}
use Rattle.rules.specs.Judgement.{has_foreign_architecture, has_foreign_component, rule_rows, suite_of, suite_rows}
use Rattle.rules.specs.Sizes.{largest}
use Rattle.rules.specs.Values.{ConfigValue}
use Rattle.rules.specs.Verdicts.{Row, first_row}
use Rattle.rules.specs.declared.suite.Suite.{Suite}
use Rattle.rules.specs.declared.verdict.Verdict.{Verdict}
use Rattle.rules.specs.declared.verdict.Verdict.TheVariants as verdict
use Rattle.suites.specs.Shelves.{ShelvesValue, pool}
use Rattle.suites.specs.Upload.{UploadValue}
use Rattle.suites.specs.Verdict.{by_print, upload_rows, verdict_on}
use Rattle.reasons.specs.Reasons.{named_architecture, named_by, named_component}
use Rattle.reasons.proofs.Rows.{a_component, a_dsc, a_listing, a_missing_file, a_sidecar, a_taken_file, an_architecture, at_suite}

-- the row's verdict is about something if the row applies
abbrev Names : (Verdict → Bool) → Row → Type 0
Names names row = row.0 ≡ true → names row.1 ≡ true

first_names : (names : Verdict → Bool) (rows : List Row) → AllByRecursion (Names names) rows → first_row rows ≢ verdict.Accepted → names (first_row rows) ≡ true
first_names names [] each refused = absurd (refused refl)
first_names names (row ∷ rows) each refused = by_case row.0 each.0 refused (first_names names rows each.1)
  where
    by_case : (b : Bool) → (b ≡ true → names row.1 ≡ true) → cond b row.1 (first_row rows) ≢ verdict.Accepted
        → (first_row rows ≢ verdict.Accepted → names (first_row rows) ≡ true) → names (cond b row.1 (first_row rows)) ≡ true
    by_case true named refused rest = named refl
    by_case false named refused rest = rest refused

-- whether a verdict on the upload is about something
abbrev names_by : ConfigValue → ShelvesValue → UploadValue → Verdict → Bool
names_by config shelves u v = is_some (named_by config shelves u v)

upload_names : (config : ConfigValue) (shelves : ShelvesValue) (u : UploadValue) → AllByRecursion (Names (names_by config shelves u)) (upload_rows by_print (pool shelves) (largest config) u)
upload_names config shelves u = (
  (λ e. sym (a_listing u.changes) ∙ e),
  ((λ e. sym (a_dsc (largest config) u) ∙ e), ((λ e. sym (a_sidecar u) ∙ e), ((λ e. sym (a_missing_file shelves u) ∙ e), ((λ e. sym (a_taken_file shelves u) ∙ e), tt)))),
)

at_claimed : {X : Type 0} (p : Suite → Bool) (h : Suite → Option X) → ((s : Suite) → p s ≡ is_some (h s)) → (o : Option Suite) (s : Suite) → o ≡ Some s → p s ≡ true
    → is_some (option_and_then h o) ≡ true
at_claimed p h same o s claimed e = sym (at_suite p h same o) ∙ ap (λ found. option_map_or p found false) claimed ∙ e

suite_names : (config : ConfigValue) (shelves : ShelvesValue) (u : UploadValue) (s : Suite) → suite_of config u.changes ≡ Some s
    → AllByRecursion (Names (names_by config shelves u)) (suite_rows s u.changes ++ upload_rows by_print (pool shelves) (largest config) u)
unfolding suite_rows
suite_names config shelves u s claimed = (
  at_claimed (has_foreign_architecture u.changes) (named_architecture u.changes) (an_architecture u.changes) (suite_of config u.changes) s claimed,
  ((λ e. refl), (at_claimed (has_foreign_component u.changes) (named_component u.changes) (a_component u.changes) (suite_of config u.changes) s claimed, upload_names config shelves u)),
)

rows_name : (config : ConfigValue) (shelves : ShelvesValue) (u : UploadValue) (found : Option Suite) → suite_of config u.changes ≡ found
    → AllByRecursion (Names (names_by config shelves u))
    (((is_none found, verdict.Unclaimed) ∷ option_map_or (λ s. suite_rows s u.changes) found []) ++ upload_rows by_print (pool shelves) (largest config) u)
rows_name config shelves u None e = ((λ e. refl), upload_names config shelves u)
rows_name config shelves u (Some s) e = ((λ e. refl), suite_names config shelves u s e)

pub refusal_names : (config : ConfigValue) (shelves : ShelvesValue) (u : UploadValue) → verdict_on config shelves u ≢ verdict.Accepted
    → is_some (named_by config shelves u (verdict_on config shelves u)) ≡ true
refusal_names config shelves u refused =
    first_names (names_by config shelves u) (rule_rows config u.changes ++ upload_rows by_print (pool shelves) (largest config) u) (rows_name config shelves u (suite_of config u.changes) refl) refused
