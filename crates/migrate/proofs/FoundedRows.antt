-- The rows of a new archive: only three tables have some.
use Rattle.std.proofs.Common.{◌≡◌, ℕ, List, [], ◌∷◌, map, fold, ap, ◌∙◌}
use Rattle.std.specs.FinMap.{empty}
use Rattle.rules.specs.Values.{ConfigValue}
use Rattle.indices.specs.Indices.{all_texts}
use Rattle.tables.specs.Rows.{Tables, Numbered, added, first_number, no_rows, with_meta}
use Rattle.tables.specs.declared.meta.TheConstants.{VERSION}
use Rattle.tables.specs.declared.rows.Meta.{Meta}
use Rattle.tables_meaning.specs.Founding.{first_date, first_dates, founded, with_first_rows, with_texts}
use Rattle.tables_meaning.proofs.FoundKept.{dates_are, text_row, texts_are}
use Rattle.old_book.specs.Copying.{IsBare}

-- the one row of `meta`
abbrev pub meta_for : List ℕ → Numbered Meta
meta_for text = (first_number, record { version = VERSION; configuration = text }) ∷ []

founded_are : (config : ConfigValue) (moment : ℕ) → founded config moment ≡ record no_rows {
  meta = meta_for config.text;
  texts = fold (λ now x. added now (text_row x)) [] (all_texts config empty (first_dates config moment));
  dates = fold (λ now d. added now d) [] (map (first_date moment) config.suites);
}
unfolding founded with_first_rows
founded_are config moment =
    let texts = all_texts config empty (first_dates config moment) in
    let dates = map (first_date moment) config.suites in
    let bare : Tables = with_meta (record { version = VERSION; configuration = config.text }) no_rows in
    dates_are dates (with_texts texts bare)
    ∙ ap (λ (t : Tables). record t { dates = fold (λ now d. added now d) t.dates dates }) (texts_are texts bare)

pub founded_meta : (config : ConfigValue) (moment : ℕ) → (founded config moment).meta ≡ meta_for config.text
founded_meta config moment = ap (λ (t : Tables). t.meta) (founded_are config moment)

-- The tables that get copied rows have no row in a new archive.
pub founded_bare : (config : ConfigValue) (moment : ℕ) → IsBare (founded config moment)
founded_bare config moment =
    let are = founded_are config moment in
    record {
      bodies = ap (λ (t : Tables). t.bodies) are;
      pieces = ap (λ (t : Tables). t.pieces) are;
      arrivals = ap (λ (t : Tables). t.arrivals) are;
      uploads = ap (λ (t : Tables). t.uploads) are;
      wants = ap (λ (t : Tables). t.wants) are;
      items = ap (λ (t : Tables). t.items) are;
      refs = ap (λ (t : Tables). t.refs) are;
      files = ap (λ (t : Tables). t.files) are;
    }
