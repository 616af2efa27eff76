-- The rows of an archive can be held, and its items can be read.
use Rattle.std.proofs.Common.{◌≡◌, ℕ, List, map, zip, All, Ok, IsPermutation, subst}
use Rattle.std.specs.Prelude.{Contains}
use Rattle.std.proofs.lemmas.List.Elements.{All-from_recursion}
use Rattle.std.proofs.lemmas.List.Sorted.{Contains-permutation}
use Rattle.rules.specs.Configuration.{config_in}
use Rattle.rules.specs.Values.{ConfigValue}
use Rattle.rules.specs.declared.suite.Suite.{Suite}
use Rattle.sums.proofs.Members.{all_at, all_from, contains_map, from_map}
use Rattle.suites.proofs.ListMembers.{from_zip}
use Rattle.suites.specs.Shelves.{ShelvesValue}
use Rattle.indices.specs.Indices.{PathText, all_texts}
use Rattle.book.specs.declared.change.Judgement.{Judgement}
use Rattle.tables.specs.Real.{AreReal, IsRealDate, IsRealText}
use Rattle.tables.specs.Rows.{Tables, rows_of}
use Rattle.tables.specs.declared.rows.TextRow.{TextRow}
use Rattle.tables_meaning.specs.Kept.{AreReadable, IsBook, date_row}
use Rattle.tables_meaning.proofs.AsciiLemmas.{AreAscii, ascii-IsUtf8}
use Rattle.tables_meaning.proofs.AsciiPaths.{config_ascii, texts_ascii}
use Rattle.indices.proofs.Paths.{HasNames}
use Rattle.tables_meaning.proofs.RealItems.{readable_items, real_files, real_items, real_refs}
use Rattle.tables_meaning.proofs.RealUploads.{real_arrivals, real_bodies, real_uploads, real_wants}

module _ (t : Tables) (config : ConfigValue) (shown : ShelvesValue) (dates : List ℕ) (read : config_in config.text ≡ Ok config) where
  real_texts : IsPermutation (map (λ x. (x.path, x.body)) (rows_of t.texts)) (all_texts config shown dates) → All IsRealText (rows_of t.texts)
  real_texts are = all_from IsRealText (rows_of t.texts) (λ x at.
      ascii-IsUtf8 x.path (all_at (λ (e : PathText). AreAscii e.0) (all_texts config shown dates) (x.path, x.body)
      (All-from_recursion (λ (e : PathText). AreAscii e.0) (all_texts config shown dates) (texts_ascii shown 0 config.suites dates (config_ascii config read)))
      (Contains-permutation _ _ (x.path, x.body) are (contains_map (λ (y : TextRow). (y.path, y.body)) x (rows_of t.texts) at))))

  real_dates : IsPermutation (rows_of t.dates) (map date_row (zip config.suites dates)) → All IsRealDate (rows_of t.dates)
  real_dates are = all_from IsRealDate (rows_of t.dates) (λ d at.
      let from = from_map date_row d (zip config.suites dates) (Contains-permutation _ _ d are at) in
      subst IsRealDate from.2 (ascii-IsUtf8 from.0.0.codename (config_ascii config read from.0.0 (from_zip from.0 config.suites dates from.1)).codename))

-- THE ROWS of an archive can be held: its texts are UTF-8, and its digests have their lengths.
pub kept_real : (t : Tables) (config : ConfigValue) (judged : List Judgement) (shown : ShelvesValue) (dates : List ℕ) → IsBook t config judged shown dates → AreReal t
kept_real t config judged shown dates kept =
    let names : (s : Suite) → Contains config.suites s → HasNames AreAscii s = config_ascii config kept.read in
    record {
      bodies = real_bodies t kept.bodies;
      arrivals = real_arrivals t kept.arrivals;
      uploads = real_uploads t judged kept.arrivals kept.uploads kept.signed;
      wants = real_wants t judged kept.arrivals kept.uploads;
      items = real_items t config.suites shown names kept.sound kept.told kept.bodies kept.items kept.files;
      refs = real_refs t config.suites shown names kept.sound kept.told kept.bodies kept.items kept.files;
      files = real_files t config.suites shown names kept.sound kept.told kept.bodies kept.items kept.files;
      texts = real_texts t config shown dates kept.read kept.texts;
      dates = real_dates t config shown dates kept.read kept.date_rows;
    }

-- ITS ITEMS can be read.
pub kept_readable : (t : Tables) (config : ConfigValue) (judged : List Judgement) (shown : ShelvesValue) (dates : List ℕ) → IsBook t config judged shown dates → AreReadable t
kept_readable t config judged shown dates kept =
    readable_items t config.suites shown (config_ascii config kept.read) kept.sound kept.told kept.bodies kept.items kept.files
