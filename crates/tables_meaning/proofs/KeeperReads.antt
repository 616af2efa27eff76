-- From what a read does to the connection to what a keeper's book is after it.
use Rattle.std.proofs.Common.{◌≡◌, ℕ, List, Option, sym, ap, subst, IsTrue}
use Rattle.std.proofs.Math.Logic.{∥∥₁_map}
use Rattle.sqlite.specs.Effect.{Database}
use Rattle.sqlite.specs.State.{State, HasCleanDisk}
use Rattle.sqlite.specs.Tree.{Trees}
use Rattle.rules.specs.Values.{ConfigValue}
use Rattle.book.specs.Book.{Book}
use Rattle.book.specs.declared.change.Judgement.{Judgement}
use Rattle.tables.specs.Rows.{IsArchive, tables_in}
use Rattle.tables_meaning.specs.Archives.{IsRead, KeepsArchive, KeepsLeft, book_in_database}
use Rattle.tables_meaning.specs.Shown.{shown_in}

-- the database keeps an archive of this configuration, which shows what its rows show
abbrev pub Keeps : ConfigValue → List Judgement → List ℕ → Database → Type 0
Keeps config judged dates db = ∥ KeepsArchive db config judged (shown_in config.suites (tables_in db)) dates ∥₁

module _ {config : ConfigValue} {judged : List Judgement} {dates : List ℕ} (a b : State) (read : IsRead a b) (kept : HasCleanDisk a → IsTrue a.is_open → Keeps config judged dates a.committed) where
  -- a connection that was open was to the database of an archive
  pub was_archive : HasCleanDisk b → IsTrue a.is_open → ∥ IsArchive a.committed ∥₁
  was_archive clean up = ∥∥₁_map (kept (read.clean clean) up) (λ h. h.held)

  -- if the connection is open after the read, an archive was kept before it
  pub was_kept : HasCleanDisk b → IsTrue b.is_open → Keeps config judged dates a.committed
  was_kept clean up = kept (read.clean clean) (read.was_open clean up)

  -- what was committed is still committed
  pub still_committed : HasCleanDisk b → IsTrue b.is_open → b.committed ≡ a.committed
  still_committed clean up = read.committed clean (was_archive clean) up

  -- a property of what was committed still holds
  pub still : (P : Database → Type 0) → (HasCleanDisk a → IsTrue a.is_open → P a.committed) → HasCleanDisk b → IsTrue b.is_open → P b.committed
  still P was clean up = subst P (sym (still_committed clean up)) (was (read.clean clean) (read.was_open clean up))

  pub still_kept : HasCleanDisk b → IsTrue b.is_open → Keeps config judged dates b.committed
  still_kept clean up = subst (Keeps config judged dates) (sym (still_committed clean up)) (was_kept clean up)

  pub same_after : HasCleanDisk b → IsTrue b.is_open
      → book_in_database b.committed config judged (shown_in config.suites (tables_in b.committed)) dates ≡ book_in_database a.committed config judged (shown_in config.suites (tables_in a.committed)) dates
  same_after clean up = ap (λ db. book_in_database db config judged (shown_in config.suites (tables_in db)) dates) (still_committed clean up)

  -- a crash leaves nothing new
  pub left_before : HasCleanDisk b → (left : Option Book) → ((trees : Trees) × b.may_leave trees × KeepsLeft trees left) → (trees : Trees) × a.may_leave trees × KeepsLeft trees left
  left_before clean left might = (might.0, read.crash clean (was_archive clean) might.0 might.1, might.2)
