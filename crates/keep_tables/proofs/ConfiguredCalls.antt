-- What an archive turns into under another configuration.
use Rattle.std.proofs.Common.{◌≡◌, ◌≤◌, ℕ, true, Ok, List, All, length, Option, Some, sym, ap, subst, ◌∙◌}
use Rattle.sqlite.specs.Effect.{Database}
use Rattle.sqlite.specs.Tree.{Trees}
use Rattle.rules.specs.Configuration.{config_in}
use Rattle.rules.specs.Values.{ConfigValue}
use Rattle.suites.specs.Moved.{all_stay, moved}
use Rattle.suites.specs.Shelves.{ShelvesValue}
use Rattle.book.specs.Book.{Book, latest}
use Rattle.book.specs.Configured.{reconfigured}
use Rattle.book.specs.declared.change.Judgement.{Judgement}
use Rattle.tables.proofs.BookLemmas.{held_tables, is_archive}
use Rattle.tables.specs.Rows.{Holds, Tables, tables_in}
use Rattle.tables_meaning.specs.Archives.{KeepsArchive, KeepsLeft, book_in_database}
use Rattle.tables_meaning.specs.Coming.{HasComing}
use Rattle.tables_meaning.specs.Configuring.{Reconfigures, with_configured}
use Rattle.tables_meaning.specs.Finished.{finished}
use Rattle.tables_meaning.specs.KeeperLemmas.{left_is}
use Rattle.tables_meaning.specs.Shown.{shown_in}
use Rattle.tables_meaning.proofs.CallLemmas.{shown_here}
use Rattle.tables_meaning.proofs.ComingLemmas.{change_beside, number_by_bodies, whole_rows}
use Rattle.tables_meaning.proofs.ConfiguredRows.{configured_are, reconfigures}
use Rattle.tables_meaning.proofs.FinishedLemmas.{finished_rises, finished_twice}
use Rattle.tables_meaning.proofs.PassingLemmas.{Passes, beside, bodies_left, finished_passes}
use Rattle.tables_meaning.proofs.TurnLemmas.{KeepsComing}

-- ---- the rows

-- another configuration passes over a body that is not whole
passes_configured : (other : ConfigValue) (given : ShelvesValue) (dates : List ℕ) → Passes (with_configured other given dates)
passes_configured other given dates t bodies pieces same =
    configured_are other given dates (beside t bodies pieces) ∙ sym (ap (λ u. beside u bodies pieces) (configured_are other given dates t))

module _ (before after : Database) (config other : ConfigValue) (judged : List Judgement) (shown given : ShelvesValue) (was dates : List ℕ) (archive : KeepsArchive before config judged shown was)
    (makes : (t : Tables) → Holds before t → Holds after (with_configured other given dates t)) where
  there : Holds after (with_configured other given dates (tables_in before))
  there = makes (tables_in before) archive.held

  rows : tables_in after ≡ with_configured other given dates (tables_in before)
  rows = held_tables after (with_configured other given dates (tables_in before)) there

  -- what the database keeps afterwards, if it shows what the suites show under the configuration
  pub turns_by : given ≡ moved config.suites other.suites shown → config_in other.text ≡ Ok other → all_stay config.suites other.suites shown ≡ true → length dates ≡ length other.suites → All (λ d. d ≤ latest) dates
      → Reconfigures before after config other judged shown was given dates
  turns_by is read stay dated in_range =
      subst (λ s. Reconfigures before after config other judged shown was s dates) (sym is)
      (reconfigures before after config other judged shown was dates archive read stay dated in_range (is_archive after _ there)
      (subst (λ s. tables_in after ≡ with_configured other s dates (tables_in before)) is rows))

  -- what has come stays
  pub comes_still : KeepsComing before after
  comes_still body count bytes comes =
      let f = with_configured other given dates in
      let passes = passes_configured other given dates in
      let t = tables_in before in
      let whole = whole_rows (finished t) (finished_rises t archive.held.rows.bodies.rise) archive.kept.bodies in
      let same : finished (tables_in after) ≡ f (finished t) = ap finished rows ∙ finished_passes f passes t in
      record {
        coming = subst (λ u. HasComing u bytes) (sym rows) (change_beside f passes t bytes whole (finished_twice t) comes.coming);
        number = comes.number ∙ sym (number_by_bodies bytes (finished (tables_in after)) (finished t) (ap (λ (u : Tables). u.bodies) same ∙ bodies_left f passes (finished t)));
        count = comes.count;
      }

-- ---- the book

module _ {config other : ConfigValue} {judged : List Judgement} {shown given : ShelvesValue} {was dates : List ℕ} (old new : Database) (turn : Reconfigures old new config other judged shown was given dates) where
  pub configured_here : book_in_database new other judged (shown_in other.suites (tables_in new)) dates ≡ reconfigured other given dates (book_in_database old config judged shown was)
  configured_here = ap (λ s. book_in_database new other judged s dates) (shown_here new turn.kept) ∙ turn.book

  -- what a crash leaves of the archive under another configuration
  pub configured_left : (trees : Trees) → trees ≡ new.trees → (left : Option Book) → KeepsLeft trees left → left ≡ Some (reconfigured other given dates (book_in_database old config judged shown was))
  configured_left trees same left here = left_is trees new same ∣ turn.kept ∣₁ left here ∙ ap Some turn.book
