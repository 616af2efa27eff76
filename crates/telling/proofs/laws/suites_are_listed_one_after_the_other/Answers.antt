use Rattle.std.proofs.Common.{◌≡◌, ℕ, nat_eq, List, filter, length, map, refl, ap, ◌∙◌}
use Rattle.sums.proofs.Files.{map-map}
use Rattle.std.specs.FinMap.{entries}
use Rattle.std.specs.List.{flat_map, range_with_len}
use Rattle.serde_json.specs.Written.{compact_text}
use Rattle.output.specs.Json.{json_in, shown_data}
use Rattle.output.specs.Listing.{before, line_in, line_on, shown_in}
use Rattle.suites.specs.Codenames.{codename_at}
use Rattle.telling.proofs.SuiteLemmas.{made_by_suite}
use Rattle.telling.proofs.laws.suites_are_listed_one_after_the_other.Goals as goal

pub returns-clause-lines : goal.returns-clause-lines
unfolding shown_in
returns-clause-lines c config shelves below =
    made_by_suite (line_in config) (λ suite entry. before (codename_at config.suites suite) (line_on entry)) (λ e. refl) (length config.suites) shelves below
    ∙ (λ i. flat_map (λ suite. map-map (before (codename_at config.suites suite)) line_on (filter (λ e. nat_eq e.0.suite suite) (entries shelves)) i) (range_with_len 0 (length config.suites)))

pub returns-clause-objects : goal.returns-clause-objects
unfolding shown_in
returns-clause-objects c config shelves below =
    made_by_suite (json_in config) (λ suite entry. compact_text (shown_data (codename_at config.suites suite) entry.1)) (λ e. refl) (length config.suites) shelves below
