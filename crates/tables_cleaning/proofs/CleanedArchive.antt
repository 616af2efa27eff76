-- The archive after a cleaning: what does not count at the moment is removed, and the book is the one at the moment.
use Rattle.std.proofs.Common.{◌≡◌, ℕ, List, Option, refl, ◌∙◌}
use Rattle.rules.specs.Values.{ConfigValue}
use Rattle.suites.specs.Shelves.{ShelvesValue}
use Rattle.book.specs.Book.{at_moment, span}
use Rattle.book.specs.declared.change.Judgement.{Judgement}
use Rattle.tables.specs.Rows.{Tables}
use Rattle.tables_meaning.specs.Cleaning.{cleaned, with_current}
use Rattle.tables_meaning.specs.Kept.{AreNumbered, IsBook, book_in, bytes_of, files_in}
use Rattle.tables_meaning.proofs.BodyLemmas.{are_stored}
use Rattle.tables_meaning.proofs.LikeLemmas.{files_like, items_like, stored_like}
use Rattle.tables_meaning.proofs.SweptLemmas.{IsUnswept, kept_if_swept, swept_book}
use Rattle.tables_cleaning.proofs.CurrentLemmas.{arrivals_current, arrivals_left}
use Rattle.tables_cleaning.proofs.CurrentUploads.{uploads_left}

module _ (t : Tables) (config : ConfigValue) (judged : List Judgement) (shown : ShelvesValue) (dates : List ℕ) (numbered : AreNumbered t) (kept : IsBook t config judged shown dates)
    (moment : ℕ) where
  abbrev seconds : Option ℕ
  seconds = span config

  abbrev left : Tables
  left = with_current seconds moment t

  -- The rows without what does not count are those of an archive, except that some bodies may be unused.
  pub current_unswept : IsUnswept left config judged shown dates
  unfolding with_current
  current_unswept = record {
    meta = kept.meta;
    read = kept.read;
    sound = kept.sound;
    told = kept.told;
    signed = kept.signed;
    stored = stored_like t left refl refl (are_stored t kept.bodies);
    arrivals = arrivals_left t (are_stored t kept.bodies) kept.arrivals seconds moment;
    uploads = uploads_left t seconds moment judged numbered.uploads (are_stored t kept.bodies) kept.arrivals kept.uploads;
    items = items_like t left config.suites shown refl refl kept.items;
    files = files_like t left config.suites shown refl refl kept.files;
    texts = kept.texts;
    date_rows = kept.date_rows;
    dated = kept.dated;
    in_range = kept.in_range;
  }

  same_files : files_in left ≡ files_in t
  unfolding with_current files_in bytes_of
  same_files = refl

  pub current_book : book_in config judged shown dates left ≡ at_moment moment (book_in config judged shown dates t)
  unfolding book_in at_moment
  current_book = λ i. record {
    config = config;
    arrivals = arrivals_current t (are_stored t kept.bodies) kept.arrivals seconds moment i;
    judged = judged;
    shown = shown;
    files = same_files i;
    dates = dates;
  }

  -- THE ARCHIVE after a cleaning.
  pub cleaned_kept : IsBook (cleaned seconds moment t) config judged shown dates
  unfolding cleaned
  cleaned_kept = kept_if_swept left config judged shown dates current_unswept

  pub cleaned_book : book_in config judged shown dates (cleaned seconds moment t) ≡ at_moment moment (book_in config judged shown dates t)
  unfolding cleaned
  cleaned_book = swept_book left config judged shown dates ∙ current_book

pub cleaned_archive : (t : Tables) (config : ConfigValue) (judged : List Judgement) (shown : ShelvesValue) (dates : List ℕ) (moment : ℕ) → AreNumbered t → IsBook t config judged shown dates
    → IsBook (cleaned (span config) moment t) config judged shown dates
    × (book_in config judged shown dates (cleaned (span config) moment t) ≡ at_moment moment (book_in config judged shown dates t))
cleaned_archive t config judged shown dates moment numbered kept =
    (cleaned_kept t config judged shown dates numbered kept moment, cleaned_book t config judged shown dates numbered kept moment)
