-- The verdicts that follow from the configuration and the .changes alone, and the place in the
-- configuration where an upload goes.
use Rattle.std.specs.Prelude.{◌≡◌, ℕ, Bool, not, ◌||◌, List, [], ◌∷◌, bytes_eq, Option, Some, position, is_none, option_and_then, slice_get}
use Rattle.std.specs.Option.{option_map_or}
use Rattle.std.specs.List.{list_any}
use Rattle.records.specs.Values.{ChangesValue}
use Rattle.rules.specs.Suites.{claiming, claiming_among, keeps_architecture, keeps_component, allows, component_of}
use Rattle.rules.specs.Verdicts.{Row}
use Rattle.rules.specs.Values.{ConfigValue}
use Rattle.rules.specs.declared.suite.Suite.{Suite}
use Rattle.rules.specs.declared.judgement.Place.{Place}
use Rattle.rules.specs.declared.verdict.Verdict.TheVariants as verdict

-- the suite that claims the distribution of the .changes
unfoldable pub suite_of : ConfigValue → ChangesValue → Option Suite
suite_of config c = option_and_then (slice_get config.suites) (claiming c.distribution config.suites)

-- the component of an upload: that of its first entry
unfoldable pub component : ChangesValue → List ℕ
component c = option_map_or (λ e. component_of e.section) (slice_get c.entries 0) []

unfoldable pub has_foreign_architecture : ChangesValue → Suite → Bool
has_foreign_architecture c s = list_any (λ a. not (keeps_architecture s a)) c.architectures

unfoldable pub is_not_allowed : ChangesValue → Suite → Bool
is_not_allowed c s = not (allows s c.source c.person)

-- the entries' components differ, or the component is not the suite's
unfoldable pub has_foreign_component : ChangesValue → Suite → Bool
has_foreign_component c s =
    list_any (λ e. not (bytes_eq (component_of e.section) (component c))) c.entries
    || not (keeps_component s (component c))

-- the rows of the verdicts 2 to 4, at the suite that claims the distribution
unfoldable pub suite_rows : Suite → ChangesValue → List Row
suite_rows s c =
    (has_foreign_architecture c s, verdict.ForeignArchitecture)
    ∷ (is_not_allowed c s, verdict.NotAllowed)
    ∷ (has_foreign_component c s, verdict.ForeignComponent)
    ∷ []

-- the rows of the verdicts 1 to 4
abbrev pub rule_rows : ConfigValue → ChangesValue → List Row
rule_rows config c =
    (is_none (suite_of config c), verdict.Unclaimed)
    ∷ option_map_or (λ s. suite_rows s c) (suite_of config c) []

-- the positions of the suite and of the component in it
abbrev pub IsPlace : ConfigValue → ChangesValue → Place → Type 0
IsPlace config c place =
    (claiming c.distribution config.suites ≡ Some place.suite)
    × (option_and_then (λ s. position (bytes_eq (component c)) s.components) (suite_of config c) ≡ Some place.component)

-- ---- the verdicts and the place, if a function says which suites the elements of a list are

-- the element that claims the distribution of the .changes
unfoldable pub claimant : {S : Type 0} → (S → Suite) → List S → ChangesValue → Option S
claimant suite suites c = option_and_then (slice_get suites) (claiming_among suite c.distribution suites)

-- the rows of the verdicts 1 to 4
abbrev pub rows_among : {S : Type 0} → (S → Suite) → List S → ChangesValue → List Row
rows_among suite suites c =
    (is_none (claimant suite suites c), verdict.Unclaimed)
    ∷ option_map_or (λ s. suite_rows (suite s) c) (claimant suite suites c) []

-- the positions of the element and of the component in its suite
abbrev pub IsPlaceAmong : {S : Type 0} → (S → Suite) → List S → ChangesValue → Place → Type 0
IsPlaceAmong suite suites c place =
    (claiming_among suite c.distribution suites ≡ Some place.suite)
    × (option_and_then (λ s. position (bytes_eq (component c)) (suite s).components) (claimant suite suites c) ≡ Some place.component)
