-- The answers of runs, from what the keeper and the judging say.
use Rattle.std.proofs.Common.{◌≡◌, ◌<◌, ◌≤◌, ℕ, Bool, false, List, [], ◌∷◌, map, fold, drop, length, append-nil, Option, Some, Ok, Err, refl, sym, ap, subst, ◌∙◌}
use Rattle.std.specs.Prelude.{⊤}
use Rattle.std.proofs.Math.Seq.{drop-append_seam}
use Rattle.std.proofs.lemmas.Bool.{lt-ltb, le-ltb}
use Rattle.rules.specs.Values.{ConfigValue}
use Rattle.suites.specs.Shelves.{AreSound, ShelvesValue}
use Rattle.suites.specs.Upload.{UploadValue}
use Rattle.book.specs.Book.{Book, Candidate, amended, at_moment, due, judgements, latest, upload_of}
use Rattle.book.specs.Keeping.{Apart, HasBodies, HasEachBody, sign_of}
use Rattle.book.specs.declared.change.Step.{Step}
use Rattle.history.specs.Amending.{IsPlanned, OnceAmended, steps_at}
use Rattle.history.specs.Answers.{IsAnswer, IsFaithful, IsStep, answer, is_refused, new_lines, report_line}
use Rattle.history.specs.Archives.{Stands, Whole, acted, acts_of, archive, book_of, whole_of}
use Rattle.history.specs.Histories.{History, Lines, QueueRun, Reply, arrivals_after, counting, due_after, followed}
use Rattle.history.specs.Judging.{AreJudged, after_uploads}
use Rattle.history.specs.declared.fault.Fault.TheVariants.{Moment}
use Rattle.history.proofs.Amended.{left_amended, said_amended}
use Rattle.history.proofs.Judged.{due_faithful}
use Rattle.history.proofs.Kept.{stands_kept}
use Rattle.history.proofs.Known.{apart_with_empty, known}
use Rattle.history.proofs.RunJudged.{StaysTold, is_planned, sign_in}
use Rattle.history.proofs.SimulationRun.{answer_in_time, run_has, run_step}
use Rattle.history.proofs.Steps.{book_of-idle}

-- a moment past the limit is refused
pub late_run : (may_fail : Bool) (h : History) (moment : ℕ) → latest < moment → IsAnswer may_fail h (QueueRun moment) (Err Moment)
unfolding answer
late_run may_fail h moment late = rw (lt-ltb latest moment late) refl

-- a run within the latest moment is not refused
pub free_run : (h : History) (moment : ℕ) → moment ≤ latest → is_refused h (QueueRun moment) ≡ false
unfolding is_refused
free_run h moment in_time = le-ltb latest moment in_time

-- ---- a run at a moment at which nothing is due

no_map : {X Y : Type 0} (f : X → Y) (xs : List X) → map f xs ≡ [] → xs ≡ []
no_map f [] is = refl
no_map f (x ∷ xs) is = cc

-- if the keeper has no complete upload, nothing is due
nothing_due : (h : History) (moment : ℕ) (old : Book) (us : List UploadValue) → Stands old h → IsFaithful h (QueueRun moment ∷ []) → us ≡ []
    → map sign_in us ≡ map sign_of (due (at_moment moment old)) → due_after h.opening h.steps moment ≡ []
nothing_due h moment old us stands faithful none signs =
    sym (due_faithful h (QueueRun moment ∷ []) faithful moment)
    ∙ ap (λ (b : Book). due (at_moment moment b)) (sym stands)
    ∙ no_map sign_of (due (at_moment moment old)) (sym signs ∙ ap (map sign_in) none)

-- the run then adds no line
no_lines : (h : History) (moment : ℕ) → due_after h.opening h.steps moment ≡ [] → new_lines h moment ≡ []
unfolding new_lines acts_of
no_lines h moment none =
    let a = archive h in
    ap (λ (cs : List Candidate). map report_line (drop (length a.judged) (fold (acted h.opening.config) a (map (λ c. Whole (whole_of (counting h.opening h.steps moment) c) moment) cs)).judged)) none
    ∙ ap (map report_line) (ap (drop (length a.judged)) (sym (append-nil a.judged)) ∙ drop-append_seam a.judged [])

-- a run when nothing is due leaves the book
idle_book : (h : History) (moment : ℕ) (reply : Reply) → due_after h.opening h.steps moment ≡ [] → book_of (followed h (QueueRun moment) (Ok reply)) ≡ book_of h
unfolding arrivals_after acts_of
idle_book h moment reply none =
    book_of-idle h (QueueRun moment) (Ok reply) refl (ap (map (λ c. Whole (whole_of (counting h.opening h.steps moment) c) moment)) none)

-- A run that is done when nothing is due: the book is the old one, and there is no line.
pub idle_step : (may_fail : Bool) (h : History) (moment : ℕ) (old : Book) (us : List UploadValue) → Stands old h → IsFaithful h (QueueRun moment ∷ []) → moment ≤ latest
    → us ≡ [] → map sign_in us ≡ map sign_of (due (at_moment moment old))
    → (is_open : Type 0) (new : Book) (lines : List (List ℕ)) → new ≡ old → lines ≡ [] → IsStep may_fail h (QueueRun moment) (Ok (Lines lines)) is_open new
idle_step may_fail h moment old us stands faithful in_time none signs is_open new lines same are =
    let idle : due_after h.opening h.steps moment ≡ [] = nothing_due h moment old us stands faithful none signs in
    record {
      answered = ap (λ ls. Ok (Lines ls)) (are ∙ sym (no_lines h moment idle)) ∙ sym (answer_in_time h moment (le-ltb latest moment in_time));
      kept = stands_kept is_open new (followed h (QueueRun moment) (Ok (Lines lines))) (same ∙ stands ∙ sym (idle_book h moment (Lines lines) idle));
    }

-- ---- a run that judges

-- the steps judge these uploads on what the book shows
judged_on : (book : Book) (config : ConfigValue) (shelves : ShelvesValue) (us them : List UploadValue) (steps : List Step)
    → config ≡ book.config → shelves ≡ book.shown → them ≡ us → AreJudged config shelves them steps → AreJudged book.config book.shown us steps
judged_on book config shelves us them steps is_config is_shown is_us judged =
    subst (λ c. AreJudged c book.shown us steps) is_config
    (subst (λ s. AreJudged config s us steps) is_shown (subst (λ xs. AreJudged config shelves xs steps) is_us judged))

-- if records describe what is shown, they still do so afterwards
stays_on : (book : Book) (config : ConfigValue) (shelves : ShelvesValue) (us them : List UploadValue)
    → config ≡ book.config → shelves ≡ book.shown → them ≡ us → StaysTold config shelves them → StaysTold book.config book.shown us
stays_on book config shelves us them is_config is_shown is_us stays =
    subst (λ c. StaysTold c book.shown us) is_config
    (subst (λ s. StaysTold config s us) is_shown (subst (StaysTold config shelves) is_us stays))

-- The steps of a run are planned, if the keeper's uploads have the names and the prints of those that are due at its moment.
pub planned_run : (moment : ℕ) (old now : Book) (config : ConfigValue) (shelves after : ShelvesValue) (us them : List UploadValue) (steps made : List Step)
    → now ≡ old → config ≡ now.config → shelves ≡ now.shown → them ≡ us → made ≡ steps
    → map sign_in us ≡ map sign_of (due (at_moment moment old)) → AreJudged config shelves them steps → StaysTold config shelves them
    → after ≡ after_uploads config shelves them
    → IsPlanned now moment made after
planned_run moment old now config shelves after us them steps made same is_config is_shown is_us is_steps signs judged stays is =
    is_planned now moment us made after
    (subst (AreJudged now.config now.shown us) (sym is_steps) (judged_on now config shelves us them steps is_config is_shown is_us judged))
    (signs ∙ ap (λ (b : Book). map sign_of (due (at_moment moment b))) (sym same))
    (is ∙ ap (after_uploads config shelves) is_us ∙ ap (λ (s : ShelvesValue). after_uploads config s us) is_shown ∙ ap (λ (c : ConfigValue). after_uploads c now.shown us) is_config)
    (stays_on now config shelves us them is_config is_shown is_us stays)

-- A run, if what the keeper says holds for all bodies without collision.
module _ (may_fail : Bool) (h : History) (moment : ℕ) (old now : Book) (config : ConfigValue) (shelves : ShelvesValue) (us them : List UploadValue) (steps made : List Step)
    (stands : Stands old h) (faithful : IsFaithful h (QueueRun moment ∷ [])) (in_time : moment ≤ latest)
    (same : now ≡ old) (is_config : config ≡ now.config) (is_shown : shelves ≡ now.shown) (is_us : them ≡ us) (is_steps : made ≡ steps)
    (told : Apart old (us ≡ map (upload_of (at_moment moment old).arrivals) (due (at_moment moment old))))
    (sound : AreSound shelves) (judged : AreJudged config shelves them steps) where
  is_shown_old : shelves ≡ old.shown
  is_shown_old = is_shown ∙ ap (λ (b : Book). b.shown) same

  sound_here : AreSound old.shown
  sound_here = subst AreSound is_shown_old sound

  judged_here : AreJudged old.config old.shown us steps
  judged_here = judged_on old config shelves us them steps (is_config ∙ ap (λ (b : Book). b.config) same) is_shown_old is_us judged

  uploads_here : us ≡ map (upload_of (at_moment moment old).arrivals) (due (at_moment moment old))
  uploads_here =
      told ([] ∷ faithful.bodies) (apart_with_empty faithful.bodies faithful.apart)
      (subst (HasBodies ([] ∷ faithful.bodies)) (sym stands) (known h (QueueRun moment ∷ []) faithful))

  -- the book has a body for each file that the pool then has
  has : HasEachBody old (steps_at moment made)
  has =
      subst (λ (xs : List Step). HasEachBody old (steps_at moment xs)) (sym is_steps)
      (run_has h moment old us steps stands faithful sound_here uploads_here judged_here)

  does : (is_open : Type 0) (new : Book) → new ≡ amended old (steps_at moment made) → IsStep may_fail h (QueueRun moment) (Ok (Lines (map report_line (judgements steps)))) is_open new
  does is_open new is =
      run_step h moment old us steps stands faithful sound_here uploads_here judged_here may_fail is_open new (le-ltb latest moment in_time)
      (is ∙ ap (λ xs. amended old (steps_at moment xs)) is_steps)

  -- a run that is done
  pub ran_step : (is_open : Type 0) (new : Book) (lines : List (List ℕ)) → OnceAmended now moment made (λ book. new ≡ book) → lines ≡ map report_line (judgements steps)
      → IsStep may_fail h (QueueRun moment) (Ok (Lines lines)) is_open new
  ran_step is_open new lines is are =
      subst (λ ls. IsStep may_fail h (QueueRun moment) (Ok (Lines ls)) is_open new) (sym are)
      (does is_open new (said_amended h (QueueRun moment) moment old now made stands faithful same has (λ book. new ≡ book) is))

  -- what a crash leaves that has all of it
  pub ran_left : (left : Option Book) → OnceAmended now moment made (λ book. left ≡ Some book)
      → left ≡ Some (book_of (followed h (QueueRun moment) (answer h (QueueRun moment))))
  ran_left left is =
      left_amended h (QueueRun moment) moment old now made stands faithful same has may_fail (Lines (map report_line (judgements steps))) left is
      (does ⊤ (amended old (steps_at moment made)) refl)
