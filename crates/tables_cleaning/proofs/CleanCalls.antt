-- What a cleaning makes of what a database keeps.
use Rattle.std.proofs.Common.{◌≡◌, ℕ, List, [], Option, length, sym, ap, subst, ◌∙◌}
use Rattle.sqlite.specs.Effect.{Database}
use Rattle.rules.specs.Values.{ConfigValue}
use Rattle.suites.specs.Shelves.{ShelvesValue}
use Rattle.book.specs.Book.{at_moment, ended, span}
use Rattle.book.specs.declared.change.Judgement.{Judgement}
use Rattle.tables.specs.Rows.{Tables, Holds, tables_in}
use Rattle.tables.proofs.BookLemmas.{held_tables}
use Rattle.tables_meaning.specs.Archives.{KeepsArchive, Turns, book_in_database}
use Rattle.tables_meaning.specs.Cleaning.{cleaned, ended_rows, with_cleaned}
use Rattle.tables_meaning.specs.Coming.{HasComing}
use Rattle.tables_meaning.specs.Finished.{finished}
use Rattle.tables_meaning.specs.Kept.{AreNumbered, IsBook, book_in}
use Rattle.tables_meaning.proofs.ComingLemmas.{none_coming}
use Rattle.tables_meaning.proofs.DeliveredLemmas.{numbered}
use Rattle.tables_meaning.proofs.FinishedLemmas.{finished_numbered, kept_finished}
use Rattle.tables_meaning.proofs.UnderWayLemmas.{finished_under_way}
use Rattle.tables_cleaning.proofs.CleanedArchive.{cleaned_archive}
use Rattle.tables_cleaning.proofs.CleanedFinished.{cleaned_finished, count_ended}

module _ (before after : Database) (config : ConfigValue) (moment : ℕ) (held : (t : Tables) → Holds before t → Holds after (with_cleaned (span config) moment t))
    (judged : List Judgement) (shown : ShelvesValue) (dates : List ℕ) (archive : KeepsArchive before config judged shown dates) where
  abbrev rows_before : Tables
  rows_before = tables_in before

  abbrev left : Tables
  left = cleaned (span config) moment (finished rows_before)

  rises : AreNumbered rows_before
  rises = numbered before rows_before archive.held

  rows_held : tables_in after ≡ with_cleaned (span config) moment rows_before
  rows_held = held_tables after (with_cleaned (span config) moment rows_before) (held rows_before archive.held)

  rows : tables_in after ≡ left
  rows = rows_held ∙ cleaned_finished rows_before config judged shown dates rises archive.kept moment

  both : IsBook left config judged shown dates × (book_in config judged shown dates left ≡ at_moment moment (book_in config judged shown dates (finished rows_before)))
  both = cleaned_archive (finished rows_before) config judged shown dates moment (finished_numbered rows_before rises) archive.kept

  -- all rows are finished afterwards
  all_whole : finished (tables_in after) ≡ tables_in after
  all_whole = ap finished rows ∙ kept_finished left both.0.bodies ∙ sym rows

  turns : Turns before after config judged shown dates judged shown dates (at_moment moment)
  turns =
      let same : finished (tables_in after) ≡ left = all_whole ∙ rows in
      record {
        kept = record {
          held = subst (Holds after) (sym rows_held) (held rows_before archive.held);
          kept = subst (λ u. IsBook u config judged shown dates) (sym same) both.0;
          coming = finished_under_way (tables_in after) all_whole;
        };
        book = ap (book_in config judged shown dates) same ∙ both.1;
      }

-- The database keeps the archive at the moment, and nothing is coming any more.
pub clean_turns : (before after : Database) (seconds : Option ℕ) (moment : ℕ) → ((t : Tables) → Holds before t → Holds after (with_cleaned seconds moment t))
    → (config : ConfigValue) (judged : List Judgement) (shown : ShelvesValue) (dates : List ℕ) → KeepsArchive before config judged shown dates → seconds ≡ span config
    → Turns before after config judged shown dates judged shown dates (at_moment moment) × HasComing (tables_in after) []
clean_turns before after seconds moment held config judged shown dates archive same =
    let now : (t : Tables) → Holds before t → Holds after (with_cleaned (span config) moment t) = λ t was. subst (λ s. Holds after (with_cleaned s moment t)) same (held t was) in
    (turns before after config moment now judged shown dates archive, none_coming (tables_in after) (all_whole before after config moment now judged shown dates archive))

-- The rows that do not count are as many as the arrivals of the book that do not.
pub clean_count : (before : Database) (seconds : Option ℕ) (moment : ℕ) (config : ConfigValue) (judged : List Judgement) (shown : ShelvesValue) (dates : List ℕ)
    → KeepsArchive before config judged shown dates → seconds ≡ span config
    → length (ended_rows seconds moment (tables_in before)) ≡ length (ended (span config) moment (book_in_database before config judged shown dates).arrivals)
clean_count before seconds moment config judged shown dates archive same =
    ap (λ s. length (ended_rows s moment (tables_in before))) same
    ∙ count_ended (tables_in before) config judged shown dates (numbered before (tables_in before) archive.held) archive.kept moment
