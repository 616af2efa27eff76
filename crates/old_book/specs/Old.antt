-- Archives of older layouts, from the rows that queries show of them.
use Rattle.std.specs.Prelude.{◌≡◌, ◌⊎◌, ℕ, List, [], ◌∷◌, All, Contains, Some}
use Rattle.sqlite.specs.Effect.{Database}
use Rattle.rules.specs.Values.{ConfigValue}
use Rattle.suites.specs.Shelves.{ShelvesValue}
use Rattle.book.specs.declared.change.Judgement.{Judgement}
use Rattle.tables.specs.Rows.{Numbered, Tables, rows_of}
use Rattle.tables.specs.declared.meta.TheConstants.{VERSION}
use Rattle.tables.specs.declared.rows.Meta.{Meta}
use Rattle.tables_meaning.specs.Kept.{AreReadable, IsBook}
use Rattle.tables_audit.specs.Parts.{UploadsFit}
use Rattle.old_rows.specs.Layouts.{AreShown, Asked, ShowsNone, older_layouts}
use Rattle.old_book.specs.Copying.{AreRising}
use Rattle.old_book.specs.Settling.{settled, unjudged, with_meta_row}
use Rattle.old_book.specs.Text.{without_days}

-- the row of meta has a configuration, and this is its text without the fields KeepDays and ValidDays
pub record HasTextIn (row : Meta) (text : List ℕ) : Type 0 where
  pub old : List ℕ
  pub is : row ≡ record { version = VERSION; configuration = old }
  pub text_is : without_days old ≡ Some text

-- The one row of meta has a configuration, and this is its text without the fields KeepDays and ValidDays.
pub record HasText (meta : Numbered Meta) (text : List ℕ) : Type 0 where
  pub old : List ℕ
  pub is : rows_of meta ≡ record { version = VERSION; configuration = old } ∷ []
  pub text_is : without_days old ≡ Some text

-- Rows that are shown are those of an old archive. The two fields of its configuration are passed over. The wants are exactly the
-- entries of all uploads, also of judged ones. Without the wants of judged uploads the rows are those of an archive of today.
pub record IsOldArchive (t : Tables) (config : ConfigValue) (judged : List Judgement) (shown : ShelvesValue) (dates : List ℕ) : Type 0 where
  pub text : HasText t.meta config.text
  pub rising : AreRising t
  pub listed : UploadsFit (unjudged t) []
  pub kept : IsBook (with_meta_row config.text (settled t)) config judged shown dates

-- the rows keep no old archive
abbrev pub KeepsNoOld : Tables → Type 0
KeepsNoOld t = (config : ConfigValue) (judged : List Judgement) (shown : ShelvesValue) (dates : List ℕ) → IsOldArchive t config judged shown dates → ⊥

-- The database is an archive of an older layout: its book is that of these rows, with arrivals at moment 0.
abbrev pub IsOldBook : Database → Tables → ConfigValue → List Judgement → ShelvesValue → List ℕ → Type 0
IsOldBook db t config judged shown dates = (asked : Asked) × Contains older_layouts asked × AreShown asked db t × IsOldArchive t config judged shown dates

-- some query of the layout is refused, or shows rows that cannot be rows of its table, or all show rows that keep no
-- old archive
abbrev pub KeepsNoneAs : Asked → Database → Type 0
KeepsNoneAs asked db = ShowsNone asked db ⊎ ((t : Tables) × AreShown asked db t × (AreReadable t → KeepsNoOld t))

-- For each older layout some query is refused, or shows rows that cannot be rows of its table, or all show rows that keep
-- no old archive.
abbrev pub IsNoOldArchive : Database → Type 0
IsNoOldArchive db = All (λ asked. KeepsNoneAs asked db) older_layouts
