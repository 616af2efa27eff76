-- The archive after a change: what is written of it, and then the rows without the bodies that nothing uses any more.
use Rattle.std.proofs.Common.{◌≡◌, ℕ, ◌<◌, ◌≤◌, Bool, true, false, if◌then◌else◌, nat_eq, List, ◌++◌, filter, length, refl, sym, subst, ◌∙◌, All, is_some, IsTrue, Ok}
use Rattle.std.specs.List.{list_any}
use Rattle.std.proofs.lemmas.List.Elements.{All-from_recursion, All-weaker, recursion_from_All}
use Rattle.sqlite_keyed.proofs.ListLemmas.{all-filter}
use Rattle.rules.specs.Configuration.{config_in}
use Rattle.rules.specs.Values.{ConfigValue}
use Rattle.suites.specs.Shelves.{ShelvesValue}
use Rattle.tables.specs.Bodies.{body_with}
use Rattle.tables.specs.Rows.{Numbered, Tables, rows_of}
use Rattle.tables.specs.declared.rows.ArrivalRow.{ArrivalRow}
use Rattle.tables.specs.declared.rows.BodyRow.{BodyRow}
use Rattle.book.specs.Book.{Book, at_moment, counts, current, dates_past, judgements, latest, shown_past, span}
use Rattle.book.specs.Keeping.{AreSteps, IsDeliverable, IsSound}
use Rattle.book.specs.declared.change.Change.{Change}
use Rattle.book.specs.declared.change.Judgement.{Judgement}
use Rattle.tables_meaning.specs.Kept.{AreNumbered, IsBook, arrivals_in, book_in, is_used}
use Rattle.tables_meaning.specs.Making.{takes_file, with_change, with_steps, with_written}
use Rattle.tables_meaning.specs.Planned.{IsStepped, KeepsChange}
use Rattle.tables_meaning.specs.Sweeping.{swept}
use Rattle.tables_meaning.proofs.AmendedLemmas.{IsWritten, amended_archive}
use Rattle.tables_meaning.proofs.BodyLemmas.{are_stored, used_on}
use Rattle.tables_meaning.proofs.JudgedSteps.{judged_steps}
use Rattle.indices.proofs.Paths.{config_codenames}
use Rattle.tables_meaning.proofs.RemainingFiles.{remains_written}
use Rattle.tables_meaning.proofs.SignedLemmas.{signed_after}
use Rattle.tables_meaning.proofs.StepLemmas.{stepped_rows, sound_past}
use Rattle.tables_meaning.proofs.SweptLemmas.{kept_if_swept, kept_if_used, swept_book}

-- what holds of all holds of some
pub some_of : {X : Type 0} (P : X → Type 0) (some : X → Bool) (xs : List X) → All P xs → All P (filter some xs)
some_of P some xs all = All-from_recursion P (filter some xs) (all-filter P some xs (recursion_from_All P xs all))

-- What the tables keep once the change is written.
pub written_after : (t : Tables) (config : ConfigValue) (judged : List Judgement) (shown : ShelvesValue) (dates : List ℕ) (change : Change)
    → IsBook t config judged shown dates → AreNumbered t → config_in config.text ≡ Ok config
    → IsSound (book_in config judged shown dates t) change → change.moment ≤ latest
    → All (λ s. All (λ e. e.0.suite < length config.suites) s.plan.put) change.steps
    → All (λ s. All (λ f. IsTrue (is_some (body_with f.print t.bodies))) s.plan.files_added) change.steps
    → IsWritten t (with_written config (length judged) change t) config judged shown dates change
unfolding book_in at_moment current with_written
written_after t config judged shown dates change kept numbered read sound small inside arrived =
    let plans : AreSteps shown change.steps = sound.plans in
    let past : Tables = with_steps config.suites (length judged) change.steps t in
    let at : Book = at_moment change.moment (book_in config judged shown dates t) in
    let deliverable : All (λ a. IsDeliverable a.name a.body) (arrivals_in t) =
    All-weaker (λ a. IsDeliverable a.name a.body × (a.moment ≤ latest)) (λ a. IsDeliverable a.name a.body) (λ a h. h.0) (arrivals_in t) kept.arrivals.deliverable in
    let rows : IsStepped t past config.suites (shown_past shown change.steps) = stepped_rows t config.suites (length judged) shown change.steps (record {
      numbered = numbered;
      bodies = are_stored t kept.bodies;
      items = kept.items;
      files = kept.files;
      plans = plans;
      inside = inside;
      codenames = config_codenames config read;
      arrived = arrived;
    }) in
    amended_archive t past config judged shown dates change kept (record {
      meta = rows.meta;
      keeps = record { bodies = rows.bodies; pieces = rows.pieces; arrivals = rows.arrivals };
      texts = rows.texts;
      date_rows = rows.dates;
      uploads = judged_steps config.suites t judged (counts (span config) change.moment) at change.steps numbered kept.uploads refl refl sound.judged;
      items = rows.items;
      files = rows.files;
      sound = sound_past shown change.steps kept.sound plans;
      told = sound.told kept.told;
      signed = signed_after at judged change.steps (some_of (λ a. IsDeliverable a.name a.body) (counts (span config) change.moment) (arrivals_in t) deliverable) kept.signed sound.judged;
    }) small read sound.texts

pub kept_after : (t : Tables) (config : ConfigValue) (judged : List Judgement) (shown : ShelvesValue) (dates : List ℕ) (change : Change)
    → IsBook t config judged shown dates → IsWritten t (with_written config (length judged) change t) config judged shown dates change
    → KeepsChange t (with_change config (length judged) change t) config judged shown dates change
unfolding with_change
kept_after t config judged shown dates change kept written = by (list_any takes_file change.steps) refl
  where
    made : Tables
    made = with_written config (length judged) change t

    still_used : list_any takes_file change.steps ≡ false → (x : ℕ × BodyRow) → IsTrue (is_used t x.0) → IsTrue (is_used made x.0)
    still_used none x used =
        used_on t made x.0 (λ e. subst (λ l. list_any (λ (a : ArrivalRow). nat_eq a.body x.0) (rows_of l) ≡ true) (sym written.keeps.arrivals) e)
        (remains_written config (length judged) change none t x.0) used

    used : list_any takes_file change.steps ≡ false → All (λ x. IsTrue (is_used made x.0)) made.bodies
    used none =
        subst (λ (bodies : Numbered BodyRow). All (λ x. IsTrue (is_used made x.0)) bodies) (sym written.keeps.bodies)
        (All-weaker (λ x. IsTrue (is_used t x.0)) (λ x. IsTrue (is_used made x.0)) (still_used none) t.bodies kept.bodies.used)

    by : (b : Bool) → list_any takes_file change.steps ≡ b → KeepsChange t (if b then swept made else made) config judged shown dates change
    by true e = record {
      kept = kept_if_swept made config (judged ++ judgements change.steps) (shown_past shown change.steps) (dates_past change.moment dates change.steps) written.unswept;
      book = λ has. swept_book made config (judged ++ judgements change.steps) (shown_past shown change.steps) (dates_past change.moment dates change.steps) ∙ written.book has;
    }
    by false e = record {
      kept = kept_if_used made config (judged ++ judgements change.steps) (shown_past shown change.steps) (dates_past change.moment dates change.steps) written.unswept (used e);
      book = written.book;
    }
