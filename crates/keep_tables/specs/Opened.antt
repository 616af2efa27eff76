-- What an opening finds: the archive of a database, or no archive.
use Rattle.std.specs.Prelude.{◌≡◌, ◌≢◌, ℕ, List, [], filter, Option, Result, IfOk, IfSome, IsTrue}
use Rattle.sqlite.specs.Effect.{Database}
use Rattle.sqlite.specs.State.{State, IsUnchanged}
use Rattle.rules.specs.Values.{ConfigValue}
use Rattle.book.specs.declared.change.Judgement.{Judgement}
use Rattle.tables.specs.Rows.{Tables, Holds, IsArchive, tables_in}
use Rattle.tables_meaning.specs.Finished.{AreUnderWay, finished, is_unfinished}
use Rattle.tables_meaning.specs.Shown.{shown_in}
use Rattle.tables_audit.specs.TextRows.{ArePrintsOf, texts_in}
use Rattle.tables_audit.specs.Whole.{KeepsNone, KeepsSome}
use Rattle.keep_tables.specs.Finishing.{unfinished_ids}
use Rattle.keep_tables.specs.declared.opening.Found.{Found}

-- The database keeps an archive of this configuration, with these judged uploads and these dates, once the bodies that are not
-- whole are removed. Their pieces are as those of whole ones.
abbrev pub IsArchiveOf : Database → ConfigValue → List Judgement → List ℕ → Type 0
IsArchiveOf db config judged dates = IsArchive db × KeepsSome (finished (tables_in db)) config judged dates × AreUnderWay (tables_in db)

-- if an archive is found, P holds of it
abbrev pub IfFound : {T E : Type 0} → Result (Option T) E → (T → Type 0) → Type 0
IfFound result P = IfOk result (λ o. IfSome o P)

-- All is as before, the database keeps the archive that was found, and these are the bodies that are not whole.
abbrev pub FindsArchive : State → State → Found → Type 0
FindsArchive old new found = IsUnchanged old new × IsArchiveOf old.now found.held.config found.held.judged.items found.held.dates.items × (found.unfinished.items ≡ unfinished_ids (tables_in old.now).bodies)

-- The rows show what was found to be shown.
abbrev pub ShowsFound : Tables → Found → Type 0
ShowsFound t found = found.held.shelves ≡ shown_in found.held.config.suites t

-- The prints that were found are of texts in the rows, at their paths.
abbrev pub HasPrintsFound : Tables → Found → Type 0
HasPrintsFound t found = ArePrintsOf (texts_in t.texts) found.held.prints.items

-- The database keeps no archive, whatever it shows: if the pieces of the bodies that are not whole are as those of whole ones,
-- the rows without these bodies are not those of an archive.
abbrev pub IsNoArchive : Database → Type 0
IsNoArchive db = IsArchive db → AreUnderWay (tables_in db) → KeepsNone (finished (tables_in db))

-- some body is not whole
abbrev pub HasUnfinished : Database → Type 0
HasUnfinished db = filter is_unfinished (tables_in db).bodies ≢ []

-- An archive was found: outside a transaction the database keeps it, and these are the bodies that are not whole.
pub record IsFound (s : State) (config : ConfigValue) (judged : List Judgement) (dates ids : List ℕ) : Type 0 where
  pub is_open : IsTrue s.is_open
  pub rests : s.now ≡ s.committed
  pub archive : IsArchiveOf s.now config judged dates
  pub are : ids ≡ unfinished_ids (tables_in s.now).bodies

-- The rows that were committed are still so, except the bodies that are not whole. If all bodies are whole it is the
-- same database.
pub record IsFinished (old new : State) : Type 0 where
  pub is_open : IsTrue new.is_open
  pub held : (t : Tables) → Holds old.committed t → Holds new.committed (finished t)
  pub same : (t : Tables) → Holds old.committed t → filter is_unfinished t.bodies ≡ [] → new.committed ≡ old.committed
