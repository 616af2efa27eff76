-- A database that holds the rows of an archive, as a keeper has it.
use Rattle.std.proofs.Common.{◌≡◌, ℕ, List, [], sym, ap, subst, ◌∙◌}
use Rattle.sqlite.specs.Effect.{Database}
use Rattle.rules.specs.Values.{ConfigValue}
use Rattle.suites.specs.Shelves.{ShelvesValue}
use Rattle.book.specs.declared.change.Judgement.{Judgement}
use Rattle.tables.specs.Rows.{Tables, Holds, tables_in}
use Rattle.tables.proofs.BookLemmas.{held_tables}
use Rattle.tables_meaning.specs.Archives.{KeepsArchive, book_in_database}
use Rattle.tables_meaning.specs.Coming.{HasComing}
use Rattle.tables_meaning.specs.Finished.{finished}
use Rattle.tables_meaning.specs.Kept.{IsBook, book_in}
use Rattle.tables_meaning.specs.Shown.{shown_in}
use Rattle.tables_meaning.proofs.CallLemmas.{kept_here, shown_here}
use Rattle.tables_meaning.proofs.ComingLemmas.{none_coming}
use Rattle.tables_meaning.proofs.FinishedLemmas.{kept_finished}
use Rattle.tables_meaning.proofs.UnderWayLemmas.{finished_under_way}

module _ (db : Database) (t : Tables) (config : ConfigValue) (judged : List Judgement) (shown : ShelvesValue) (dates : List ℕ) (held : Holds db t) (kept : IsBook t config judged shown dates) where
  same : tables_in db ≡ t
  same = held_tables db t held

  -- no body is unfinished
  whole : finished (tables_in db) ≡ t
  whole = ap finished same ∙ kept_finished t kept.bodies

  archive : KeepsArchive db config judged shown dates
  archive = record {
    held = subst (Holds db) (sym same) held;
    kept = subst (λ u. IsBook u config judged shown dates) (sym whole) kept;
    coming = finished_under_way (tables_in db) (whole ∙ sym same);
  }

  -- The database keeps the archive,
  pub archive_held : KeepsArchive db config judged (shown_in config.suites (tables_in db)) dates
  archive_held = kept_here db archive

  -- no body is coming,
  pub none_comes : HasComing (tables_in db) []
  none_comes = none_coming (tables_in db) (whole ∙ sym same)

  -- and its book is that of the rows.
  pub book_held : book_in_database db config judged (shown_in config.suites (tables_in db)) dates ≡ book_in config judged shown dates t
  book_held = ap (λ s. book_in_database db config judged s dates) (shown_here db archive) ∙ ap (book_in config judged shown dates) whole
