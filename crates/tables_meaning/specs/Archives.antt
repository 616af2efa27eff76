-- The archive that a database keeps, as a keeper sees it: that of its rows without a body that is not whole.
use Rattle.std.specs.Prelude.{◌≡◌, ◌≤◌, ◌⊎◌, ℕ, List, ◌++◌, Option, Some, None, IsTrue}
use Rattle.sqlite_disk.specs.Disk.{MoreFaults}
use Rattle.sqlite.specs.Effect.{Database}
use Rattle.sqlite.specs.State.{State, HasCleanDisk}
use Rattle.sqlite.specs.Tree.{Trees}
use Rattle.rules.specs.Values.{ConfigValue}
use Rattle.suites.specs.Shelves.{ShelvesValue}
use Rattle.book.specs.Book.{Book, amended, dates_past, judgements, shown_past}
use Rattle.book.specs.Keeping.{HasEachBody}
use Rattle.book.specs.declared.change.Change.{Change}
use Rattle.book.specs.declared.change.Judgement.{Judgement}
use Rattle.tables.specs.Rows.{Holds, IsArchive, tables_in}
use Rattle.tables_meaning.specs.Finished.{AreUnderWay, finished}
use Rattle.tables_meaning.specs.Kept.{IsBook, book_in}

-- The database is that of an archive of this configuration, with these judged uploads, these items shown, and these dates. A
-- body that is not whole is not part of it, but its pieces are numbered and cut as those of a whole one.
pub record KeepsArchive (db : Database) (config : ConfigValue) (judged : List Judgement) (shown : ShelvesValue) (dates : List ℕ) : Type 0 where
  pub held : Holds db (tables_in db)
  pub kept : IsBook (finished (tables_in db)) config judged shown dates
  pub coming : AreUnderWay (tables_in db)

-- the book that a database keeps
abbrev pub book_in_database : Database → ConfigValue → List Judgement → ShelvesValue → List ℕ → Book
book_in_database db config judged shown dates = book_in config judged shown dates (finished (tables_in db))

-- The database keeps this book.
abbrev pub KeepsBook : Database → ConfigValue → Book → Type 0
KeepsBook db config b = ∥ ((judged : List Judgement) × (shown : ShelvesValue) × (dates : List ℕ) × KeepsArchive db config judged shown dates × (b ≡ book_in_database db config judged shown dates)) ∥₁

-- The database keeps this book, once the bodies that are not whole are removed. Their pieces are numbered and cut as
-- those of whole ones.
abbrev pub KeepsFinished : Database → ConfigValue → Book → Type 0
KeepsFinished db config b = ∥ ((judged : List Judgement) × (shown : ShelvesValue) × (dates : List ℕ) × IsArchive db
    × IsBook (finished (tables_in db)) config judged shown dates × AreUnderWay (tables_in db) × (b ≡ book_in config judged shown dates (finished (tables_in db)))) ∥₁

-- What the trees keep that a crash leaves: an archive with this book, or no archive, of whatever configuration.
abbrev pub KeepsLeft : Trees → Option Book → Type 0
KeepsLeft trees (Some b) = (db : Database) × (db.trees ≡ trees) × KeepsBook db b.config b
KeepsLeft trees None = (db : Database) → db.trees ≡ trees → (b : Book) → KeepsBook db b.config b → ⊥

-- What one database keeps becomes what another keeps: the judged uploads, what is shown and the dates become these, and the
-- book that of the step.
pub record Turns (before after : Database) (config : ConfigValue) (judged : List Judgement) (shown : ShelvesValue) (dates : List ℕ)
    (judged_after : List Judgement) (shown_after : ShelvesValue) (dates_after : List ℕ) (step : Book → Book) : Type 0 where
  pub kept : KeepsArchive after config judged_after shown_after dates_after
  pub book : book_in_database after config judged_after shown_after dates_after ≡ step (book_in_database before config judged shown dates)

-- What a change makes of what one database keeps: another keeps the changed archive. Its book is the amended one if the book
-- had each body.
pub record Amends (before after : Database) (config : ConfigValue) (judged : List Judgement) (shown : ShelvesValue) (dates : List ℕ) (change : Change) : Type 0 where
  pub kept : KeepsArchive after config (judged ++ judgements change.steps) (shown_past shown change.steps) (dates_past change.moment dates change.steps)
  pub book : HasEachBody (book_in_database before config judged shown dates) change
      → book_in_database after config (judged ++ judgements change.steps) (shown_past shown change.steps) (dates_past change.moment dates change.steps)
      ≡ amended (book_in_database before config judged shown dates) change

-- What a read of a keeper leaves of its connection, if its database is that of an archive.
pub record IsRead (old new : State) : Type 0 where
  pub clean : HasCleanDisk new → HasCleanDisk old
  pub counts : old.faults ≤ new.faults
  pub was_open : HasCleanDisk new → IsTrue new.is_open → IsTrue old.is_open
  pub closes : HasCleanDisk new → IsTrue old.is_open → IsTrue new.is_open ⊎ MoreFaults old.faults new.faults
  pub committed : HasCleanDisk new → (IsTrue old.is_open → ∥ IsArchive old.committed ∥₁) → IsTrue new.is_open → new.committed ≡ old.committed
  pub crash : HasCleanDisk new → (IsTrue old.is_open → ∥ IsArchive old.committed ∥₁) → (trees : Trees) → new.may_leave trees → old.may_leave trees
