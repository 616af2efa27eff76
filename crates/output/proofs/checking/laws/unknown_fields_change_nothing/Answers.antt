use Rattle.std.proofs.Common.{ℕ, List, [], Option, option_map, unwrap_or, ap}
use Rattle.std.specs.Option.{option_and_then, option_map_or}
use Rattle.para.specs.Field.{FieldValue}
use Rattle.para.specs.Value.{folded_value}
use Rattle.rules.specs.Days.{days_in}
use Rattle.rules.specs.Paragraphs.{days, first_line, lines_behind, mebibytes, size_said, words}
use Rattle.rules.specs.Uploaders.{rules_in}
use Rattle.output.proofs.FieldLemmas.{also_alike, architectures_alike, codename_alike, components_alike, description_alike, keep_alike, label_alike, origin_alike, size_alike, suite_alike, uploaders_alike, valid_alike}
use Rattle.output.proofs.checking.laws.unknown_fields_change_nothing.Goals as goal

first : Option FieldValue → Option (List ℕ)
first found = option_map (λ f. f.first) found

pub returns-clause-suite : goal.returns-clause-suite
unfolding first_line words lines_behind days first
returns-clause-suite c p = λ i. record {
  codename = unwrap_or (first (codename_alike p i)) [];
  suite = first (suite_alike p i);
  origin = first (origin_alike p i);
  label = first (label_alike p i);
  description = first (description_alike p i);
  architectures = option_map_or folded_value (architectures_alike p i) [];
  components = option_map_or folded_value (components_alike p i) [];
  also_accept_for = option_map_or folded_value (also_alike p i) [];
  uploaders = option_map rules_in (option_map (λ (f : FieldValue). f.more) (uploaders_alike p i));
  valid_days = option_and_then days_in (first (valid_alike p i));
}

pub returns-clause-days : goal.returns-clause-days
unfolding first_line days first
returns-clause-days c p = ap (λ found. option_and_then days_in (first found)) (keep_alike p)

pub returns-clause-size : goal.returns-clause-size
unfolding mebibytes
returns-clause-size c p = ap (λ found. option_and_then size_said found) (size_alike p)
