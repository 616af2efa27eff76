-- What is found of an old archive in a database.
use Rattle.std.specs.Prelude.{◌≡◌}
use Rattle.sqlite.specs.Effect.{Database}
use Rattle.tables.specs.Rows.{Tables}
use Rattle.tables_read.specs.All.{tables_with}
use Rattle.old_rows.specs.Layouts.{AreShown, Asked}
use Rattle.old_book.specs.Old.{IsOldArchive, IsOldBook}
use Rattle.old_book.specs.Settling.{settled, with_meta_row}
use Rattle.old_book.specs.declared.old.OldBook.{OldBook}

-- The rows are those of the old archive, and the book has them as those of an archive of today.
pub record IsBookOf (t : Tables) (old : OldBook) : Type 0 where
  pub archive : IsOldArchive t old.held.config old.held.judged.items old.held.shelves old.held.dates.items
  pub same : tables_with old.rows ≡ with_meta_row old.held.config.text (settled t)

-- The queries of the layout show rows of which this is the book.
pub record IsShownBook (asked : Asked) (db : Database) (old : OldBook) : Type 0 where
  pub rows : Tables
  pub shown : AreShown asked db rows
  pub book : IsBookOf rows old

-- the book is that of an old archive in the database
abbrev pub IsOldBookIn : Database → OldBook → Type 0
IsOldBookIn db old = (t : Tables) × IsOldBook db t old.held.config old.held.judged.items old.held.shelves old.held.dates.items
    × (tables_with old.rows ≡ with_meta_row old.held.config.text (settled t))
