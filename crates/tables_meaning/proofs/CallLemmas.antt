-- From what a call does to the database to what a keeper's book becomes.
use Rattle.std.proofs.Common.{◌≡◌, ℕ, List, ◌++◌, Option, Some, sym, ap, subst, ◌∙◌, IsTrue, Result, Ok, Err, OnOk, OnErr}
use Rattle.std.proofs.Math.Logic.{∥∥₁_map}
use Rattle.sqlite.specs.Effect.{Database}
use Rattle.sqlite.specs.State.{State}
use Rattle.sqlite.specs.Tree.{Trees}
use Rattle.rules.specs.Values.{ConfigValue}
use Rattle.suites.specs.Shelves.{ShelvesValue}
use Rattle.book.specs.Book.{Book, amended, dates_past, judgements, shown_past}
use Rattle.book.specs.Keeping.{HasEachBody}
use Rattle.book.specs.declared.change.Change.{Change}
use Rattle.book.specs.declared.change.Judgement.{Judgement}
use Rattle.tables.specs.Rows.{tables_in}
use Rattle.tables_meaning.specs.Archives.{Amends, KeepsArchive, KeepsLeft, Turns, book_in_database}
use Rattle.tables_meaning.specs.KeeperLemmas.{left_is}
use Rattle.tables_meaning.specs.Shown.{shown_in}
use Rattle.tables_meaning.specs.Transactions.{IsUndone}
use Rattle.indices.proofs.Paths.{config_codenames}
use Rattle.tables_meaning.specs.Finished.{finished}
use Rattle.tables_meaning.proofs.FinishedLemmas.{shown_finished}
use Rattle.tables_meaning.proofs.ShownLemmas.{shown_is}

module _ {config : ConfigValue} {judged : List Judgement} {shown : ShelvesValue} {dates : List ℕ} (db : Database) where
  -- an archive shows what its rows show
  pub shown_here : KeepsArchive db config judged shown dates → shown_in config.suites (tables_in db) ≡ shown
  shown_here h =
      sym (shown_finished config.suites (tables_in db))
      ∙ shown_is (finished (tables_in db)) config.suites shown h.kept.items h.kept.sound.at_home (config_codenames config h.kept.read)

  pub kept_here : KeepsArchive db config judged shown dates → KeepsArchive db config judged (shown_in config.suites (tables_in db)) dates
  kept_here h = subst (λ s. KeepsArchive db config judged s dates) (sym (shown_here h)) h

-- what the database keeps after a call, done or undone
pub turned : {X E : Type 0} {config : ConfigValue} {judged : List Judgement} {dates : List ℕ} (old new : State) (step : Book → Book) (r : Result X E)
    → OnOk r (IsTrue old.is_open × IsTrue new.is_open)
    → ((c : ConfigValue) (j : List Judgement) (s : ShelvesValue) (d : List ℕ) → KeepsArchive old.committed c j s d → OnOk r (Turns old.committed new.committed c j s d j s d step))
    → OnErr r (IsUndone old new)
    → (IsTrue old.is_open → ∥ KeepsArchive old.committed config judged (shown_in config.suites (tables_in old.committed)) dates ∥₁)
    → IsTrue new.is_open → ∥ KeepsArchive new.committed config judged (shown_in config.suites (tables_in new.committed)) dates ∥₁
turned old new step (Ok x) served done undone was up = ∥∥₁_map (was served.0) (λ h. kept_here new.committed (done _ _ _ _ h).kept)
turned {config = config} {judged = judged} {dates = dates} old new step (Err e) served done undone was up =
    subst (λ db. ∥ KeepsArchive db config judged (shown_in config.suites (tables_in db)) dates ∥₁) (sym (undone.committed up)) (was (undone.was_open up))

-- the book after a step that is done
pub done_book : {config : ConfigValue} {judged judged_after : List Judgement} {shown shown_after : ShelvesValue} {dates dates_after : List ℕ} {step : Book → Book} (old new : Database)
    → Turns old new config judged shown dates judged_after shown_after dates_after step
    → book_in_database new config judged_after (shown_in config.suites (tables_in new)) dates_after ≡ step (book_in_database old config judged shown dates)
done_book {config} {judged_after = judged_after} {dates_after = dates_after} old new turn =
    ap (λ s. book_in_database new config judged_after s dates_after) (shown_here new turn.kept) ∙ turn.book

-- the book after a change, if it had each body
pub amends_turns : {config : ConfigValue} {judged : List Judgement} {shown : ShelvesValue} {dates : List ℕ} {change : Change} (old new : Database)
    → Amends old new config judged shown dates change → HasEachBody (book_in_database old config judged shown dates) change
    → Turns old new config judged shown dates (judged ++ judgements change.steps) (shown_past shown change.steps) (dates_past change.moment dates change.steps) (λ b. amended b change)
amends_turns old new amends has = record { kept = amends.kept; book = amends.book has }

-- what a crash leaves of a step
pub turn_left : {config : ConfigValue} {judged judged_after : List Judgement} {shown shown_after : ShelvesValue} {dates dates_after : List ℕ} {step : Book → Book} (old new : Database) (trees : Trees) → trees ≡ new.trees → (left : Option Book)
    → KeepsLeft trees left → Turns old new config judged shown dates judged_after shown_after dates_after step → left ≡ Some (step (book_in_database old config judged shown dates))
turn_left old new trees same left here turn = left_is trees new same ∣ turn.kept ∣₁ left here ∙ ap Some turn.book
