-- The verdict on an upload from those of its rules and its lists, and what the shelves show after it.
use Rattle.std.proofs.Common.{◌≡◌, ◌≢◌, ℕ, Bool, true, false, cond, List, [], ◌∷◌, ◌++◌, map, Option, Some, None, option_to_list, flat_map, refl, sym, ap, ◌∙◌, subst, arith, append-nil}
use Rattle.std.specs.List.{AllByRecursion}
use Rattle.std.specs.Option.{option_map_or}
use Rattle.records.specs.Values.{ChangesValue}
use Rattle.rules.specs.Judgement.{rule_rows, suite_rows, suite_of, component}
use Rattle.rules.specs.Sizes.{largest}
use Rattle.rules.specs.Suites.{claiming}
use Rattle.rules.specs.Values.{ConfigValue}
use Rattle.rules.specs.Verdicts.{Row, first_row, number_of}
use Rattle.rules.specs.declared.suite.Suite.{Suite}
use Rattle.rules.specs.declared.verdict.Verdict.{Verdict}
use Rattle.rules.specs.declared.verdict.Verdict.TheVariants as verdict
use Rattle.sums.specs.declared.print.Print.{Print}
use Rattle.suites.specs.Items.{ItemWith, item_of, on_shelf, standing}
use Rattle.suites.specs.Plan.{IsStep, admitted, admitted_if, after_upload, given, printed}
use Rattle.suites.specs.Shelves.{ShelvesValue, AreSound, pool, shown_after, version_of}
use Rattle.suites.specs.Upload.{UploadValue, items_of}
use Rattle.suites.specs.Verdict.{by_print, upload_rows, verdict_on}
use Rattle.suites.proofs.Unchanged.{shown_again, no_step}

-- ---- the verdict

abbrev pub Refuses : Row → Type 0
Refuses row = row.1 ≢ verdict.Accepted

refuses : (v : Verdict) → number_of v ≢ 0 → v ≢ verdict.Accepted
refuses v h e = h (ap number_of e)

suite_rows_refuse : (s : Suite) (c : ChangesValue) → AllByRecursion Refuses (suite_rows s c)
unfolding suite_rows
suite_rows_refuse s c = (
  refuses verdict.ForeignArchitecture (λ e. absurd (omega (arith, e))),
  (refuses verdict.NotAllowed (λ e. absurd (omega (arith, e))), (refuses verdict.ForeignComponent (λ e. absurd (omega (arith, e))), tt)),
)

rows_refuse : (c : ChangesValue) (found : Option Suite) → AllByRecursion Refuses (option_map_or (λ s. suite_rows s c) found [])
rows_refuse c None = tt
rows_refuse c (Some s) = suite_rows_refuse s c

pub rule_rows_refuse : (config : ConfigValue) (c : ChangesValue) → AllByRecursion Refuses (rule_rows config c)
rule_rows_refuse config c = (refuses verdict.Unclaimed (λ e. absurd (omega (arith, e))), rows_refuse c (suite_of config c))

after_row : (b : Bool) (v rest all last : Verdict) → v ≢ verdict.Accepted → cond b v rest ≡ verdict.Accepted → (rest ≡ verdict.Accepted → all ≡ last) → cond b v all ≡ last
after_row true v rest all last h e more = absurd (h e)
after_row false v rest all last h e more = more e

-- rows that accept leave the verdict to those after them
first_after : (rows more : List Row) → AllByRecursion Refuses rows → first_row rows ≡ verdict.Accepted → first_row (rows ++ more) ≡ first_row more
first_after [] more h e = refl
first_after (row ∷ rows) more h e = after_row row.0 row.1 (first_row rows) (first_row (rows ++ more)) (first_row more) h.0 e (first_after rows more h.1)

refused_row : (b : Bool) (v rest all : Verdict) → cond b v rest ≢ verdict.Accepted → (rest ≢ verdict.Accepted → all ≡ rest) → cond b v all ≡ cond b v rest
refused_row true v rest all h more = refl
refused_row false v rest all h more = more h

-- rows that refuse give the verdict
first_refused : (rows more : List Row) → first_row rows ≢ verdict.Accepted → first_row (rows ++ more) ≡ first_row rows
first_refused [] more h = absurd (h refl)
first_refused (row ∷ rows) more h = refused_row row.0 row.1 (first_row rows) (first_row (rows ++ more)) h (first_refused rows more)

pub refused_by_rules : (config : ConfigValue) (shelves : ShelvesValue) (u : UploadValue) (v : Verdict) → v ≡ first_row (rule_rows config u.changes) → v ≢ verdict.Accepted
    → verdict_on config shelves u ≡ v
refused_by_rules config shelves u v h refusal =
    first_refused (rule_rows config u.changes) (upload_rows by_print (pool shelves) (largest config) u) (λ e. refusal (h ∙ e)) ∙ sym h

pub left_to_lists : (config : ConfigValue) (shelves : ShelvesValue) (u : UploadValue) (v : Verdict) → first_row (rule_rows config u.changes) ≡ verdict.Accepted
    → first_row (upload_rows by_print (pool shelves) (largest config) u) ≡ v → verdict_on config shelves u ≡ v
left_to_lists config shelves u v h e =
    first_after (rule_rows config u.changes) (upload_rows by_print (pool shelves) (largest config) u) (rule_rows_refuse config u.changes) h ∙ e

-- ---- the shelves

admitted_none : {X : Type 0} (v : Verdict) (items : List X) → v ≢ verdict.Accepted → admitted_if v items ≡ []
admitted_none verdict.Accepted items h = absurd (h refl)
admitted_none verdict.Unclaimed items h = refl
admitted_none verdict.ForeignArchitecture items h = refl
admitted_none verdict.NotAllowed items h = refl
admitted_none verdict.ForeignComponent items h = refl
admitted_none verdict.BadListing items h = refl
admitted_none verdict.BadDsc items h = refl
admitted_none verdict.BadSidecar items h = refl
admitted_none verdict.NotInPool items h = refl
admitted_none verdict.OtherContents items h = refl

-- a refused upload leaves what is shown
refused_after : (config : ConfigValue) (shelves : ShelvesValue) (u : UploadValue) → verdict_on config shelves u ≢ verdict.Accepted → after_upload config shelves u ≡ shelves
unfolding admitted
refused_after config shelves u h =
    ap (λ items. shown_after version_of shelves items)
    (admitted_none (verdict_on config shelves u) (map printed (given config u (items_of (λ e. e.print) u (component u.changes)))) h)
    ∙ shown_again shelves

-- THE PLAN that changes nothing is the step of a refused upload.
pub refused_step : (config : ConfigValue) (shelves : ShelvesValue) (u : UploadValue) (v : Verdict) → AreSound shelves → verdict_on config shelves u ≡ v → v ≢ verdict.Accepted
    → IsStep shelves (after_upload config shelves u)
    (record { verdict = v; put = []; dropped = []; references_put = []; references_dropped = []; files_added = []; files_removed = [] })
refused_step config shelves u v sound is refusal =
    subst (λ new. IsStep shelves new (record { verdict = v; put = []; dropped = []; references_put = []; references_dropped = []; files_added = []; files_removed = [] }))
    (sym (refused_after config shelves u (λ e. refusal (sym is ∙ e)))) (no_step shelves v sound)

printed_standing : (suite : ℕ) (items : List (ItemWith Print)) → map printed (map (on_shelf suite) items) ≡ map (standing suite) (map item_of items)
printed_standing suite [] = refl
printed_standing suite (item ∷ items) = ap (λ rest. standing suite (item_of item) ∷ rest) (printed_standing suite items)

given_in : (config : ConfigValue) (u : UploadValue) (suite : ℕ) (items : List (ItemWith Print)) → claiming u.changes.distribution config.suites ≡ Some suite
    → map printed (given config u items) ≡ map (standing suite) (map item_of items)
unfolding given
given_in config u suite items h =
    ap (λ found. map printed (flat_map (λ suite. map (on_shelf suite) items) (option_to_list found))) h
    ∙ ap (map printed) (append-nil (map (on_shelf suite) items)) ∙ printed_standing suite items

admitted_all : {X : Type 0} (v : Verdict) (items : List X) → v ≡ verdict.Accepted → admitted_if v items ≡ items
admitted_all v items e = ap (λ v. admitted_if v items) e

-- THE SHELVES after an accepted upload show its items in the suite that claims it.
pub accepted_after : (config : ConfigValue) (shelves : ShelvesValue) (u : UploadValue) (suite : ℕ) → verdict_on config shelves u ≡ verdict.Accepted
    → claiming u.changes.distribution config.suites ≡ Some suite
    → after_upload config shelves u ≡ shown_after version_of shelves (map (standing suite) (map item_of (items_of (λ e. e.print) u (component u.changes))))
unfolding admitted
accepted_after config shelves u suite is h =
    ap (λ items. shown_after version_of shelves items)
    (admitted_all (verdict_on config shelves u) (map printed (given config u (items_of (λ e. e.print) u (component u.changes)))) is
    ∙ given_in config u suite (items_of (λ e. e.print) u (component u.changes)) h)
