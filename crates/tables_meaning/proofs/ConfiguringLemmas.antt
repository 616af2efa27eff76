-- The statements that write another configuration, in a row.
use Rattle.std.proofs.Common.{ℕ, List, map, refl}
use Rattle.std.specs.List.{zip}
use Rattle.sqlite.specs.State.{State}
use Rattle.rules.specs.Values.{ConfigValue}
use Rattle.suites.specs.Shelves.{ShelvesValue}
use Rattle.indices.specs.Indices.{all_texts}
use Rattle.tables.specs.Dates.{without_dates}
use Rattle.tables.specs.Metas.{with_configuration}
use Rattle.tables.specs.Rows.{Changes, Tables}
use Rattle.tables.specs.Texts.{without_texts}
use Rattle.tables_meaning.specs.Configuring.{with_configured, with_indices}
use Rattle.tables_meaning.specs.Founding.{Continues, with_dates, with_texts}
use Rattle.tables_meaning.specs.Kept.{date_row}
use Rattle.tables_meaning.proofs.FoundLemmas.{changes_on, continues_if_changed, continues_then}

pub configured_then : (a b c d e f : State) (config : ConfigValue) (shown : ShelvesValue) (dates : List ℕ) → Changes a b (with_configuration config.text) → Changes b c without_texts → Changes c d without_dates
    → Continues d e (with_texts (all_texts config shown dates)) → Continues e f (with_dates (map date_row (zip config.suites dates))) → Changes a f (with_configured config shown dates)
unfolding with_configured
configured_then a b c d e f config shown dates one two three four five =
    let indices : Tables → Tables = with_indices config shown dates in
    changes_on a b f (with_configuration config.text) (λ t. indices (without_dates (without_texts t))) (with_configured config shown dates) (λ t. refl) one
    (continues_then b c f without_texts (λ t. indices (without_dates t)) (λ t. indices (without_dates (without_texts t))) (λ t. refl) (continues_if_changed b c without_texts two)
    (continues_then c d f without_dates indices (λ t. indices (without_dates t)) (λ t. refl) (continues_if_changed c d without_dates three)
    (continues_then d e f (with_texts (all_texts config shown dates)) (with_dates (map date_row (zip config.suites dates))) indices (λ t. refl) four five)))
