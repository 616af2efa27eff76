-- The name of the component at the place where an upload goes.
use Rattle.std.proofs.Common.{◌≡◌, ◌<◌, ℕ, List, [], Some, slice_get, position, option_and_then, bytes_eq, length, get_or, sym, ap, ◌∙◌}
use Rattle.std.proofs.lemmas.List.Quantifiers.{position-Some}
use Rattle.std.proofs.lemmas.Option.{get_or_from_slice_get}
use Rattle.std.proofs.lemmas.Slice.Eq.{bytes_eq-Decides}
use Rattle.records.specs.Values.{ChangesValue}
use Rattle.rules.specs.Judgement.{component, suite_of, IsPlace}
use Rattle.rules.specs.Values.{ConfigValue}
use Rattle.rules.specs.declared.judgement.Place.{Place}
use Rattle.rules.specs.declared.suite.Suite.{Suite}

-- the component's position in the suite at the place
in_suite : (config : ConfigValue) (c : ChangesValue) (place : Place) (s : Suite) → slice_get config.suites place.suite ≡ Some s → IsPlace config c place
    → position (bytes_eq (component c)) s.components ≡ Some place.component
unfolding suite_of
in_suite config c place s h is =
    ap (option_and_then (λ (s : Suite). position (bytes_eq (component c)) s.components)) (sym h ∙ sym (ap (option_and_then (slice_get config.suites)) is.0)) ∙ is.1

pub name_at : (config : ConfigValue) (c : ChangesValue) (place : Place) (s : Suite) (name : List ℕ) → slice_get config.suites place.suite ≡ Some s
    → slice_get s.components place.component ≡ Some name → IsPlace config c place → name ≡ component c
name_at config c place s name h k is =
    let found = position-Some (bytes_eq (component c)) s.components place.component name (in_suite config c place s h is) in
    sym (get_or_from_slice_get s.components place.component name name k)
    ∙ sym ((bytes_eq-Decides (component c) (get_or s.components place.component name)).0 found.1)

pub component_within : (config : ConfigValue) (c : ChangesValue) (place : Place) (s : Suite) → slice_get config.suites place.suite ≡ Some s → IsPlace config c place
    → place.component < length s.components
component_within config c place s h is = (position-Some (bytes_eq (component c)) s.components place.component [] (in_suite config c place s h is)).0
