-- A new archive, as a keeper has it.
use Rattle.std.proofs.Common.{◌≡◌, ◌≤◌, ℕ, Ok, [], sym, ap, subst, ◌∙◌}
use Rattle.std.specs.FinMap.{empty}
use Rattle.sqlite.specs.Effect.{Database}
use Rattle.rules.specs.Configuration.{config_in}
use Rattle.rules.specs.Values.{ConfigValue}
use Rattle.book.specs.Book.{latest}
use Rattle.book.specs.Book.{fresh_book}
use Rattle.tables.specs.Rows.{Holds, tables_in}
use Rattle.tables.proofs.BookLemmas.{held_tables}
use Rattle.tables_meaning.specs.Archives.{KeepsArchive, book_in_database}
use Rattle.tables_meaning.specs.Coming.{HasComing}
use Rattle.tables_meaning.specs.Finished.{finished}
use Rattle.tables_meaning.specs.Founding.{first_dates, founded}
use Rattle.tables_meaning.specs.Kept.{IsBook, book_in}
use Rattle.tables_meaning.specs.Shown.{shown_in}
use Rattle.tables_meaning.proofs.CallLemmas.{shown_here}
use Rattle.tables_meaning.proofs.ComingLemmas.{none_coming}
use Rattle.tables_meaning.proofs.FinishedLemmas.{kept_finished}
use Rattle.tables_meaning.proofs.FoundKept.{founded_is_kept, founded_book}
use Rattle.tables_meaning.proofs.UnderWayLemmas.{finished_under_way}

module _ (db : Database) (config : ConfigValue) (moment : ℕ) (read : config_in config.text ≡ Ok config) (early : moment ≤ latest) (held : Holds db (founded config moment)) where
  -- no body of them is unfinished
  founded_finished : finished (founded config moment) ≡ founded config moment
  founded_finished = kept_finished (founded config moment) (founded_is_kept config moment read early).bodies

  pub founded_archive : KeepsArchive db config [] empty (first_dates config moment)
  founded_archive =
      let same = held_tables db (founded config moment) held in
      record {
        held = subst (Holds db) (sym same) held;
        kept = subst (λ t. IsBook t config [] empty (first_dates config moment)) (sym (ap finished same ∙ founded_finished)) (founded_is_kept config moment read early);
        coming = finished_under_way (tables_in db) (ap finished same ∙ founded_finished ∙ sym same);
      }

  pub founded_here : book_in_database db config [] (shown_in config.suites (tables_in db)) (first_dates config moment) ≡ fresh_book config moment
  founded_here =
      ap (λ s. book_in_database db config [] s (first_dates config moment)) (shown_here db founded_archive)
      ∙ ap (book_in config [] empty (first_dates config moment)) (ap finished (held_tables db (founded config moment) held) ∙ founded_finished)
      ∙ founded_book config moment

  pub founded_whole : HasComing (tables_in db) []
  founded_whole =
      let same = held_tables db (founded config moment) held in
      none_coming (tables_in db) (ap finished same ∙ founded_finished ∙ sym same)
