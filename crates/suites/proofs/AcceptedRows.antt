-- What no row of the verdicts says of an accepted upload.
use Rattle.std.proofs.Common.{◌≡◌, ◌≢◌, Bool, true, false, cond, List, [], ◌∷◌, ◌++◌, Option, Some, None, refl, sym, arith}
use Rattle.std.specs.List.{AllByRecursion}
use Rattle.std.specs.Option.{option_map_or}
use Rattle.std.specs.Prelude.{is_none}
use Rattle.records.specs.Values.{ChangesValue}
use Rattle.rules.proofs.JudgeLemmas.{keeps_component-accepted}
use Rattle.rules.specs.Judgement.{component, has_foreign_architecture, rule_rows, suite_of, suite_rows}
use Rattle.rules.specs.Sizes.{largest}
use Rattle.rules.specs.Suites.{keeps_component}
use Rattle.rules.specs.Values.{ConfigValue}
use Rattle.rules.specs.Verdicts.{Row, first_row}
use Rattle.rules.specs.declared.suite.Suite.{Suite}
use Rattle.rules.specs.declared.verdict.Verdict.{Verdict}
use Rattle.rules.specs.declared.verdict.Verdict.TheVariants as verdict
use Rattle.suites.specs.Shelves.{ShelvesValue, pool}
use Rattle.suites.specs.Upload.{UploadValue}
use Rattle.suites.specs.Verdict.{by_print, upload_rows, verdict_on}
use Rattle.suites.proofs.Joining.{NoRowApplies, no_row_applies, row_passed}
use Rattle.suites.proofs.Planned.{Refuses, rule_rows_refuse}

-- An accepted upload: a suite claims it and keeps what it brings, and no row of the verdicts 5 to 9 applies.
pub record IsAccepted (config : ConfigValue) (shelves : ShelvesValue) (u : UploadValue) : Type 0 where
  pub suite : Suite
  pub claimed : suite_of config u.changes ≡ Some suite
  pub architectures : has_foreign_architecture u.changes suite ≡ false
  pub component : keeps_component suite (component u.changes) ≡ true
  pub rows : NoRowApplies (largest config) shelves u

-- a row that refuses, before others that accept
passed : (b : Bool) (v all rest more : Verdict) → v ≢ verdict.Accepted → cond b v all ≡ verdict.Accepted
    → (all ≡ verdict.Accepted → (rest ≡ verdict.Accepted) × (more ≡ verdict.Accepted)) → (cond b v rest ≡ verdict.Accepted) × (more ≡ verdict.Accepted)
passed true v all rest more refusal e behind = absurd (refusal e)
passed false v all rest more refusal e behind = behind e

-- if rows and those after them accept, both do
both_accept : (rows more : List Row) → AllByRecursion Refuses rows → first_row (rows ++ more) ≡ verdict.Accepted → (first_row rows ≡ verdict.Accepted) × (first_row more ≡ verdict.Accepted)
both_accept [] more refuse e = (refl, e)
both_accept (row ∷ rows) more refuse e =
    passed row.0 row.1 (first_row (rows ++ more)) (first_row rows) (first_row more) refuse.0 e (both_accept rows more refuse.1)

claimed_by : (c : ChangesValue) (found : Option Suite) → first_row ((is_none found, verdict.Unclaimed) ∷ option_map_or (λ s. suite_rows s c) found []) ≡ verdict.Accepted
    → (s : Suite) × (found ≡ Some s) × (first_row (suite_rows s c) ≡ verdict.Accepted)
claimed_by c None e = cc
claimed_by c (Some s) e = (s, refl, e)

none_foreign : (s : Suite) (c : ChangesValue) → first_row (suite_rows s c) ≡ verdict.Accepted → has_foreign_architecture c s ≡ false
unfolding suite_rows
none_foreign s c e = (row_passed (has_foreign_architecture c s) verdict.ForeignArchitecture _ (λ e. absurd (omega (arith, e))) e).0

pub is_accepted : (config : ConfigValue) (shelves : ShelvesValue) (u : UploadValue) → verdict_on config shelves u ≡ verdict.Accepted → IsAccepted config shelves u
is_accepted config shelves u e =
    let both = both_accept (rule_rows config u.changes) (upload_rows by_print (pool shelves) (largest config) u) (rule_rows_refuse config u.changes) e in
    let s = claimed_by u.changes (suite_of config u.changes) both.0 in
    record {
      suite = s.0;
      claimed = s.1;
      architectures = none_foreign s.0 u.changes s.2;
      component = keeps_component-accepted s.0 u.changes (sym s.2);
      rows = no_row_applies (largest config) shelves u both.1;
    }
