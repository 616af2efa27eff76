-- The rows under another configuration.
use Rattle.std.specs.Prelude.{◌≡◌, ℕ, List, [], fold, map, zip}
use Rattle.sqlite.specs.Effect.{Database}
use Rattle.rules.specs.Values.{ConfigValue}
use Rattle.suites.specs.Shelves.{ShelvesValue}
use Rattle.indices.specs.Indices.{PathText, all_texts}
use Rattle.book.specs.Configured.{reconfigured}
use Rattle.book.specs.declared.change.Judgement.{Judgement}
use Rattle.tables.specs.Dates.{without_dates}
use Rattle.tables.specs.Metas.{with_configuration}
use Rattle.tables.specs.Rows.{Numbered, Tables, added}
use Rattle.tables.specs.declared.rows.Date.{Date}
use Rattle.tables.specs.declared.rows.TextRow.{TextRow}
use Rattle.tables.specs.Texts.{without_texts}
use Rattle.tables_meaning.specs.Archives.{KeepsArchive, book_in_database}
use Rattle.tables_meaning.specs.Founding.{with_dates, with_texts}
use Rattle.tables_meaning.specs.Kept.{date_row}

-- the texts and the dates of an archive that shows this, after those that are there
abbrev pub with_indices : ConfigValue → ShelvesValue → List ℕ → Tables → Tables
with_indices config shown dates t = with_dates (map date_row (zip config.suites dates)) (with_texts (all_texts config shown dates) t)

-- Another configuration, and in the place of all texts and dates those under it. No other row changes, since the items have the
-- codenames of their suites.
unfoldable pub with_configured : ConfigValue → ShelvesValue → List ℕ → Tables → Tables
with_configured config shown dates t = with_indices config shown dates (without_dates (without_texts (with_configuration config.text t)))

-- What one database keeps becomes what another keeps: the same archive under another configuration.
pub record Reconfigures (before after : Database) (config other : ConfigValue) (judged : List Judgement) (shown : ShelvesValue) (dates : List ℕ)
    (shown_under : ShelvesValue) (dates_under : List ℕ) : Type 0 where
  pub kept : KeepsArchive after other judged shown_under dates_under
  pub book : book_in_database after other judged shown_under dates_under ≡ reconfigured other shown_under dates_under (book_in_database before config judged shown dates)

-- the rows of texts and of dates under a configuration
abbrev pub new_texts : ConfigValue → ShelvesValue → List ℕ → Numbered TextRow
new_texts config shown dates = fold (λ now (x : PathText). added now (record { path = x.0; body = x.1 })) [] (all_texts config shown dates)

abbrev pub new_dates : ConfigValue → List ℕ → Numbered Date
new_dates config dates = fold (λ now d. added now d) [] (map date_row (zip config.suites dates))
