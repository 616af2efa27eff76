-- The rows of an archive, part by part, as far as the keys of the tables leave them open.
use Rattle.std.specs.Prelude.{◌≡◌, ◌≤◌, ℕ, List, All, length, map, zip, IsPermutation}
use Rattle.rules.specs.Values.{ConfigValue}
use Rattle.suites.specs.Shelves.{ShelvesValue, AreSound}
use Rattle.suites.specs.Told.{AreTold}
use Rattle.indices.specs.Indices.{all_texts}
use Rattle.book.specs.declared.change.Judgement.{Judgement}
use Rattle.book.specs.Book.{latest}
use Rattle.tables.specs.Rows.{Tables, rows_of}
use Rattle.tables_meaning.specs.Kept.{AreFiles, AreItems, AreSigned, IsBook, date_row}
use Rattle.tables_audit.specs.Parts.{UploadsFit}

-- the items, the files and the texts are those of what is shown, which is as its records say
pub record ShownFits (t : Tables) (config : ConfigValue) (shown : ShelvesValue) (dates : List ℕ) : Type 0 where
  pub sound : AreSound shown
  pub told : AreTold config.suites shown
  pub items : AreItems t config.suites shown
  pub files : AreFiles t shown
  pub texts : IsPermutation (map (λ x. (x.path, x.body)) (rows_of t.texts)) (all_texts config shown dates)

-- the uploads, the dates and what is shown are those of an archive of this configuration
pub record RestFits (t : Tables) (config : ConfigValue) (judged : List Judgement) (shown : ShelvesValue) (dates : List ℕ) : Type 0 where
  pub uploads : UploadsFit t judged
  pub signed : AreSigned judged
  pub date_rows : IsPermutation (rows_of t.dates) (map date_row (zip config.suites dates))
  pub dated : length dates ≡ length config.suites
  pub in_range : All (λ d. d ≤ latest) dates
  pub shows : ShownFits t config shown dates

-- the rows are those of an archive of this configuration, with these judged uploads and these dates, whatever it shows
abbrev pub KeepsSome : Tables → ConfigValue → List Judgement → List ℕ → Type 0
KeepsSome t config judged dates = ∥ ((shown : ShelvesValue) × IsBook t config judged shown dates) ∥₁

-- the rows are not those of an archive
abbrev pub KeepsNone : Tables → Type 0
KeepsNone t = (config : ConfigValue) (judged : List Judgement) (shown : ShelvesValue) (dates : List ℕ) → IsBook t config judged shown dates → ⊥
