-- The archive that a migration makes, as its keeper has it.
use Rattle.std.proofs.Common.{◌≡◌, ◌≤◌, ℕ, Ok, List, [], sym, subst, ◌∙◌}
use Rattle.std.proofs.Math.Logic.{∥∥₁_elim, ∥∥₁_map}
use Rattle.sqlite.specs.Effect.{Database}
use Rattle.rules.specs.Configuration.{config_in}
use Rattle.rules.specs.Values.{ConfigValue}
use Rattle.book.specs.Book.{latest}
use Rattle.book.specs.Configured.{AreAlike}
use Rattle.book.specs.declared.change.Judgement.{Judgement}
use Rattle.tables.specs.Rows.{Holds, Tables, tables_in}
use Rattle.tables.proofs.BookLemmas.{tables_set}
use Rattle.tables_read.specs.All.{tables_with}
use Rattle.tables_meaning.specs.Archives.{KeepsArchive, book_in_database}
use Rattle.tables_meaning.specs.Coming.{HasComing}
use Rattle.tables_meaning.specs.Kept.{IsBook}
use Rattle.tables_meaning.specs.KeeperLemmas.{book_set}
use Rattle.tables_meaning.specs.Shown.{shown_in}
use Rattle.old_book.specs.declared.old.OldBook.{OldBook}
use Rattle.migrate.proofs.MovedArchive.{moved_archive_book, moved_archive_kept}
use Rattle.migrate.specs.Migrated.{migrated_book, migrated_rows, old_config}
use Rattle.migrate.proofs.HeldLemmas.{archive_held, book_held, none_comes}

module _ (db : Database) (old : OldBook) (config : ConfigValue) (moment : ℕ) (held : Holds db (migrated_rows old config moment))
    (was : IsBook (tables_with old.rows) old.held.config old.held.judged.items old.held.shelves old.held.dates.items) (alike : AreAlike (old_config old) config)
    (read : config_in config.text ≡ Ok config) (early : moment ≤ latest) where
  now : IsBook (migrated_rows old config moment) config old.held.judged.items old.held.shelves old.held.dates.items
  now = moved_archive_kept (tables_with old.rows) old.held.config config old.held.judged.items old.held.shelves old.held.dates.items moment was alike read early

  archive_there : (judged : List Judgement) (dates : List ℕ) → judged ≡ old.held.judged.items → dates ≡ old.held.dates.items
      → KeepsArchive db config judged (shown_in config.suites (tables_in db)) dates
  archive_there judged dates told dated =
      subst (λ (j : List Judgement). KeepsArchive db config j (shown_in config.suites (tables_in db)) dates) (sym told)
      (subst (λ (d : List ℕ). KeepsArchive db config old.held.judged.items (shown_in config.suites (tables_in db)) d) (sym dated)
      (archive_held db (migrated_rows old config moment) config old.held.judged.items old.held.shelves old.held.dates.items held now))

  whole_there : HasComing (tables_in db) []
  whole_there = none_comes db (migrated_rows old config moment) config old.held.judged.items old.held.shelves old.held.dates.items held now

  book_there : (judged : List Judgement) (dates : List ℕ) → judged ≡ old.held.judged.items → dates ≡ old.held.dates.items
      → book_in_database db config judged (shown_in config.suites (tables_in db)) dates ≡ migrated_book old config moment
  book_there judged dates told dated =
      (λ i. book_in_database db config (told i) (shown_in config.suites (tables_in db)) (dated i))
      ∙ book_held db (migrated_rows old config moment) config old.held.judged.items old.held.shelves old.held.dates.items held now
      ∙ moved_archive_book (tables_with old.rows) old.held.config config old.held.judged.items old.held.shelves old.held.dates.items moment was alike read early

coming_prop : (t : Tables) → IsProp (HasComing t [])
coming_prop t h k i = record { rows = tables_set _ _ h.rows k.rows i }

-- the old book is that of an archive
abbrev pub IsOldBook : OldBook → Type 0
IsOldBook old = ∥ IsBook (tables_with old.rows) old.held.config old.held.judged.items old.held.shelves old.held.dates.items ∥₁

-- if the database holds the rows, under a configuration that is alike
module _ (db : Database) (old : OldBook) (config : ConfigValue) (moment : ℕ) (held : Holds db (migrated_rows old config moment)) (was : IsOldBook old) (alike : AreAlike (old_config old) config)
    (read : config_in config.text ≡ Ok config) (early : moment ≤ latest) where
  -- no body is coming,
  pub made_whole : HasComing (tables_in db) []
  made_whole = ∥∥₁_elim was (coming_prop (tables_in db)) (λ h. whole_there db old config moment held h alike read early)

  -- and with copies of the judged uploads and of the dates it is the archive, with its book.
  module _ (judged : List Judgement) (dates : List ℕ) (told : judged ≡ old.held.judged.items) (dated : dates ≡ old.held.dates.items) where
    pub made_archive : ∥ KeepsArchive db config judged (shown_in config.suites (tables_in db)) dates ∥₁
    made_archive = ∥∥₁_map was (λ h. archive_there db old config moment held h alike read early judged dates told dated)

    pub made_book : book_in_database db config judged (shown_in config.suites (tables_in db)) dates ≡ migrated_book old config moment
    made_book = ∥∥₁_elim was (book_set _ _) (λ h. book_there db old config moment held h alike read early judged dates told dated)
