-- A call that reads what is shown and then makes steps, from what is said of these.
use Rattle.std.proofs.Common.{◌≡◌, ◌⊎◌, ℕ, Bool, List, [], ◌∷◌, Option, Some, Ok, inl, inr, refl, sym, ap, subst, ◌∙◌}
use Rattle.std.specs.Prelude.{⊤}
use Rattle.suites.specs.Shelves.{ShelvesValue}
use Rattle.book.specs.Book.{Book, amended, shown_past}
use Rattle.book.specs.Keeping.{Apart, AreRenewed, AreSteps, HasBodies, HasEachBody, IsSound, Lasts, Leaves, Reads}
use Rattle.book.specs.declared.change.Change.{Change}
use Rattle.book.specs.declared.change.IndexText.{IndexText}
use Rattle.book.specs.declared.change.Step.{Step}
use Rattle.history.specs.Amending.{IsPlanned, OnceAmended, steps_at}
use Rattle.history.specs.Answers.{IsFaithful, IsStep, answer}
use Rattle.history.specs.Archives.{Stands, book_of}
use Rattle.history.specs.Histories.{Call, History, Reply, followed}
use Rattle.history.proofs.Known.{apart_with_empty, known}
use Rattle.history.proofs.StepAnswers.{stands_answered}

-- ---- the change

-- What a book is after a change does not hang on the texts that the change names.
without_texts : (book : Book) (moment : ℕ) (steps : List Step) (texts : List IndexText)
    → amended book (record { moment = moment; steps = steps; texts = texts }) ≡ amended book (steps_at moment steps)
unfolding amended
without_texts book moment steps texts = refl

-- The change of planned steps is sound for the book now, which is the one before, with the texts that differ.
pub sound_change : (moment : ℕ) (old now : Book) (shelves : ShelvesValue) (given made : List Step) (found texts : List IndexText)
    → now ≡ old → given ≡ made → texts ≡ found
    → ((change : Change) → change.moment ≡ moment → change.steps ≡ given → AreSteps old.shown given → shelves ≡ shown_past old.shown given → AreRenewed old (amended old change) found)
    → IsPlanned old moment made shelves
    → IsSound now (record { moment = moment; steps = made; texts = texts })
sound_change moment old now shelves given made found texts same is_given is_texts renewed planned =
    let change : Change = record { moment = moment; steps = made; texts = texts } in
    subst (λ (b : Book). IsSound b change) (sym same) (record {
      plans = planned.plans;
      judged = planned.judged;
      texts = subst (AreRenewed old (amended old change)) (sym is_texts)
          (renewed change refl (sym is_given) (subst (AreSteps old.shown) (sym is_given) planned.plans) (planned.shown ∙ ap (shown_past old.shown) (sym is_given)));
      told = planned.told;
    })

-- What is said of the change of the book now is said of the steps on the one before.
pub once_amended : (moment : ℕ) (old now : Book) (steps : List Step) (texts : List IndexText) (Says : Book → Type 0) → now ≡ old
    → Apart now (HasEachBody now (record { moment = moment; steps = steps; texts = texts }) → Says (amended now (record { moment = moment; steps = steps; texts = texts })))
    → OnceAmended old moment steps Says
once_amended moment old now steps texts Says same is bodies apart has each =
    let change : Change = record { moment = moment; steps = steps; texts = texts } in
    subst Says (ap (λ (b : Book). amended b change) same ∙ without_texts old moment steps texts)
    (is bodies apart (subst (HasBodies bodies) (sym same) has) (subst (λ (b : Book). HasEachBody b change) (sym same) each))

-- ---- the call

-- The steps are made on what the keeper has, which is the book of the history, and that has each body.
module _ (h : History) (call : Call) (moment : ℕ) (old now : Book) (steps : List Step)
    (stands : Stands old h) (faithful : IsFaithful h (call ∷ [])) (same : now ≡ old) (has : HasEachBody old (steps_at moment steps)) where
  pub said_amended : (Says : Book → Type 0) → OnceAmended now moment steps Says → Says (amended old (steps_at moment steps))
  said_amended Says is =
      subst (λ (b : Book). Says (amended b (steps_at moment steps))) same
      (is ([] ∷ faithful.bodies) (apart_with_empty faithful.bodies faithful.apart)
      (subst (HasBodies ([] ∷ faithful.bodies)) (sym (same ∙ stands)) (known h (call ∷ []) faithful))
      (subst (λ (b : Book). HasEachBody b (steps_at moment steps)) (sym same) has))

  -- what a crash leaves that has all of a call that these steps do
  pub left_amended : (may_fail : Bool) (reply : Reply) (left : Option Book) → OnceAmended now moment steps (λ book. left ≡ Some book)
      → IsStep may_fail h call (Ok reply) ⊤ (amended old (steps_at moment steps))
      → left ≡ Some (book_of (followed h call (answer h call)))
  left_amended may_fail reply left is does =
      said_amended (λ book. left ≡ Some book) is
      ∙ ap Some (stands_answered may_fail h call reply (amended old (steps_at moment steps)) does)

-- A crash in a call that reads its keeper and then writes it whole leaves what it would have left before, or what is then left of all
-- that it writes.
pub left_past : {K : Type 0} {is_clean is_open : K → Type 0} {faults : K → ℕ} {book : K → Book} {may_leave : K → Option Book → Type 0} {a b c : K}
    → Reads is_clean is_open faults book may_leave a b → Lasts is_clean is_open faults book b c → (Whole : Option Book → Type 0) → Leaves is_clean is_open may_leave b c Whole
    → is_clean c → (left : Option Book) → may_leave c left → (target : Option Book) → (is_clean b → is_open b → Whole left → left ≡ target)
    → may_leave a left ⊎ (left ≡ target)
left_past reads lasts Whole leaves clean left may target whole = elim (leaves clean left may) [
  | inl before ↦ inl (reads.crash (lasts.clean clean) left before)
  | inr made ↦ inr (whole (lasts.clean clean) made.0 made.1)
]
