-- The archive that a migration makes, and its book.
use Rattle.std.proofs.Common.{◌≡◌, ◌≤◌, ℕ, true, Ok, List, length, sym, ap, subst, ◌∙◌}
use Rattle.rules.specs.Configuration.{config_in}
use Rattle.rules.specs.Values.{ConfigValue}
use Rattle.suites.specs.Moved.{all_stay, moved}
use Rattle.suites.specs.Shelves.{ShelvesValue}
use Rattle.book.specs.Book.{latest}
use Rattle.book.specs.Configured.{AreAlike, reconfigured}
use Rattle.book.specs.declared.change.Judgement.{Judgement}
use Rattle.tables.specs.Rows.{Numbered, Tables, changed}
use Rattle.tables.specs.declared.rows.Meta.{Meta}
use Rattle.tables_meaning.specs.Configuring.{new_dates, new_texts, with_configured}
use Rattle.tables_meaning.specs.Founding.{founded}
use Rattle.tables_meaning.specs.Kept.{IsBook, book_in}
use Rattle.tables_meaning.proofs.ConfiguredRows.{configured_are, configured_archive, configured_book}
use Rattle.old_book.specs.Copying.{copied}
use Rattle.migrate.specs.Migrating.{moved_book, moved_rows}
use Rattle.migrate.proofs.AlikeSuites.{alike_length, alike_moved, alike_stays}
use Rattle.migrate.proofs.CopiedRows.{arrivals_copied, copied_kept, copy, files_copied}
use Rattle.migrate.proofs.FoundedRows.{founded_meta}

module _ (t : Tables) (config other : ConfigValue) (judged : List Judgement) (shown : ShelvesValue) (dates : List ℕ) (moment : ℕ) (kept : IsBook t config judged shown dates)
    (alike : AreAlike config other) (read : config_in other.text ≡ Ok other) (early : moment ≤ latest) where
  abbrev now : Tables
  now = copy t moment config.text

  now_kept : IsBook now config judged shown dates
  now_kept = copied_kept t config judged shown dates moment kept early

  stay : all_stay config.suites other.suites shown ≡ true
  stay = alike_stays config other shown kept.read kept.told alike

  same : moved config.suites other.suites shown ≡ shown
  same = alike_moved config other shown kept.read kept.told alike

  dated : length dates ≡ length other.suites
  dated = kept.dated ∙ alike_length config other alike

  -- the old configuration, texts and dates are removed, whatever they were
  rows_are : moved_rows other shown dates moment t ≡ with_configured other shown dates now
  unfolding moved_rows
  rows_are =
      let spelled : Numbered Meta → Numbered Meta = changed (λ _. true) (λ m. record m { configuration = other.text }) in
      let made : Numbered Meta → Tables = λ rows. record now { meta = spelled rows; texts = new_texts other shown dates; dates = new_dates other dates } in
      configured_are other shown dates (copied t moment (founded other moment)) ∙ ap made (founded_meta other moment) ∙ sym (configured_are other shown dates now)

  archive : IsBook (with_configured other shown dates now) other judged shown dates
  archive =
      subst (λ (s : ShelvesValue). IsBook (with_configured other s dates now) other judged s dates) same
      (configured_archive now config other judged shown dates dates now_kept read stay dated kept.in_range)

  its_book : book_in other judged shown dates (with_configured other shown dates now) ≡ reconfigured other shown dates (book_in config judged shown dates now)
  its_book =
      subst (λ (s : ShelvesValue). book_in other judged s dates (with_configured other s dates now) ≡ reconfigured other s dates (book_in config judged shown dates now)) same
      (configured_book now config other judged shown dates dates now_kept read stay dated kept.in_range)

  book_copied : reconfigured other shown dates (book_in config judged shown dates now) ≡ moved_book other moment (book_in config judged shown dates t)
  unfolding book_in
  book_copied = λ i. record {
    config = other;
    arrivals = arrivals_copied t moment config.text i;
    judged = judged;
    shown = shown;
    files = files_copied t moment config.text i;
    dates = dates;
  }

  -- THE MOVED ARCHIVE, and its book.
  pub moved_archive_kept : IsBook (moved_rows other shown dates moment t) other judged shown dates
  moved_archive_kept = subst (λ (u : Tables). IsBook u other judged shown dates) (sym rows_are) archive

  pub moved_archive_book : book_in other judged shown dates (moved_rows other shown dates moment t) ≡ moved_book other moment (book_in config judged shown dates t)
  moved_archive_book = ap (book_in other judged shown dates) rows_are ∙ its_book ∙ book_copied

pub moved_archive : (t : Tables) (config other : ConfigValue) (judged : List Judgement) (shown : ShelvesValue) (dates : List ℕ) (moment : ℕ) → IsBook t config judged shown dates → AreAlike config other
    → config_in other.text ≡ Ok other → moment ≤ latest
    → IsBook (moved_rows other shown dates moment t) other judged shown dates
    × (book_in other judged shown dates (moved_rows other shown dates moment t) ≡ moved_book other moment (book_in config judged shown dates t))
moved_archive t config other judged shown dates moment kept alike read early = (
  moved_archive_kept t config other judged shown dates moment kept alike read early,
  moved_archive_book t config other judged shown dates moment kept alike read early,
)
