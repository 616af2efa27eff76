-- The answers of promotions, from what the keeper and the steps say.
use Rattle.std.proofs.Common.{◌≡◌, ◌<◌, ◌≤◌, ℕ, Bool, true, false, List, [], ◌∷◌, map, take, length, Option, Some, None, Ok, Err, refl, sym, ap, subst, ◌∙◌, nat_lt, nat_eq, if◌then◌else◌}
use Rattle.std.specs.Prelude.{⊤}
use Rattle.std.proofs.lemmas.Bool.{lt-ltb, le-ltb}
use Rattle.std.proofs.lemmas.Option.{same_Some}
use Rattle.rules.specs.Values.{ConfigValue}
use Rattle.suites.specs.Shelves.{AreSound, ShelvesValue}
use Rattle.suites.specs.Told.{AreTold}
use Rattle.book.specs.Book.{Book, amended, at_moment, due, judgements, latest, shown_past}
use Rattle.book.specs.Keeping.{AreSteps, HasEachBody, sign_of, sign_on}
use Rattle.book.specs.declared.change.Judgement.{Judgement}
use Rattle.book.specs.declared.change.Step.{Step}
use Rattle.history.specs.Amending.{IsPlanned, OnceAmended, steps_at}
use Rattle.history.specs.Answers.{IsAnswer, IsFaithful, IsKept, IsStep, answer, is_refused}
use Rattle.history.specs.Archives.{Stands, book_of, suite_named}
use Rattle.history.specs.Copies.{AreSuites, suites_fault}
use Rattle.history.specs.Histories.{Copies, History, Promoting, followed}
use Rattle.history.specs.Promotions.{AreCopied, after_copies, copies_on, promotion_fault, sources_from}
use Rattle.history.specs.declared.fault.Fault.{Fault}
use Rattle.history.specs.declared.fault.Fault.TheVariants.{Moment, UnknownSuite, SameSuite}
use Rattle.history.proofs.Amended.{left_amended, said_amended}
use Rattle.history.proofs.Kept.{IsSame}
use Rattle.history.proofs.PromotionSteps.{copies_are_steps, copies_judge_none, past_copies}
use Rattle.history.proofs.SimulationPromotions.{promotion_has, promotion_step}
use Rattle.history.proofs.StepAnswers.{refused_step}

-- ---- the fault

pub late_promotion : (config : ConfigValue) (from to : List ℕ) (moment : ℕ) → latest < moment → promotion_fault config from to moment ≡ Some Moment
unfolding promotion_fault
late_promotion config from to moment late = rw (lt-ltb latest moment late) refl

in_time_fault : (config : ConfigValue) (from to : List ℕ) (moment : ℕ) → moment ≤ latest → promotion_fault config from to moment ≡ suites_fault (suite_named config from) (suite_named config to)
unfolding promotion_fault
in_time_fault config from to moment in_time = rw (le-ltb latest moment in_time) refl

pub named_promotion : (book : Book) (config : ConfigValue) (from to : List ℕ) (moment : ℕ) (fault : Fault) → moment ≤ latest → config ≡ book.config
    → suites_fault (suite_named config from) (suite_named config to) ≡ Some fault → promotion_fault book.config from to moment ≡ Some fault
named_promotion book config from to moment fault in_time is_config is =
    in_time_fault book.config from to moment in_time
    ∙ subst (λ (c : ConfigValue). suites_fault (suite_named c from) (suite_named c to) ≡ Some fault) is_config is

pub no_promotion_fault : (book : Book) (config : ConfigValue) (from to : List ℕ) (moment f t : ℕ) → moment ≤ latest → config ≡ book.config → AreSuites config from to f t → promotion_fault book.config from to moment ≡ None
no_promotion_fault book config from to moment f t in_time is_config suites =
    let here = subst (λ c. AreSuites c from to f t) is_config suites in
    in_time_fault book.config from to moment in_time ∙ rw (here.from_named, here.to_named, here.other) refl

-- ---- refusals

module _ (may_fail : Bool) (h : History) (from to : List ℕ) (sources : Option (List (List ℕ))) (moment : ℕ) (fault : Fault) where
  told : (own : Fault) → Some own ≡ Some fault → IsAnswer may_fail h (Promoting from to sources moment) (Err own) → IsAnswer may_fail h (Promoting from to sources moment) (Err fault)
  told own is allowed = subst (λ (f : Fault). IsAnswer may_fail h (Promoting from to sources moment) (Err f)) (same_Some own fault is) allowed

  by_other : (f t : ℕ) → nat_lt latest moment ≡ false → suite_named h.opening.config from ≡ Some f → suite_named h.opening.config to ≡ Some t
      → (b : Bool) → nat_eq f t ≡ b → (if b then Some SameSuite else None) ≡ Some fault
      → IsAnswer may_fail h (Promoting from to sources moment) (Err fault)
  unfolding answer
  by_other f t in_time first second true same is = told SameSuite is (rw (in_time, first, second, same) refl)
  by_other f t in_time first second false other is = cc

  by_suites : nat_lt latest moment ≡ false → (f t : Option ℕ) → suite_named h.opening.config from ≡ f → suite_named h.opening.config to ≡ t
      → suites_fault f t ≡ Some fault → IsAnswer may_fail h (Promoting from to sources moment) (Err fault)
  unfolding answer
  by_suites in_time None t first second is = told UnknownSuite is (rw (in_time, first) refl)
  by_suites in_time (Some f) None first second is = told UnknownSuite is (rw (in_time, first, second) refl)
  by_suites in_time (Some f) (Some t) first second is = by_other f t in_time first second (nat_eq f t) refl is

  by_late : (b : Bool) → nat_lt latest moment ≡ b
      → (if b then Some Moment else suites_fault (suite_named h.opening.config from) (suite_named h.opening.config to)) ≡ Some fault
      → IsAnswer may_fail h (Promoting from to sources moment) (Err fault)
  unfolding answer
  by_late true late is = told Moment is (rw late refl)
  by_late false in_time is = by_suites in_time (suite_named h.opening.config from) (suite_named h.opening.config to) refl refl is

  -- the fault is the answer
  fault_answered : promotion_fault h.opening.config from to moment ≡ Some fault → IsAnswer may_fail h (Promoting from to sources moment) (Err fault)
  unfolding promotion_fault
  fault_answered is = by_late (nat_lt latest moment) refl is

  -- a promotion that is refused for what the history has
  pub refused_promotion : (was_open is_open : Type 0) (old new : Book) → IsKept was_open old h → IsSame was_open is_open old new → promotion_fault h.opening.config from to moment ≡ Some fault
      → IsStep may_fail h (Promoting from to sources moment) (Err fault) is_open new
  refused_promotion was_open is_open old new kept same is =
      refused_step may_fail h (Promoting from to sources moment) fault was_open is_open old new kept same (fault_answered is)

-- the fault by the suites is that of the history, open or not
pub named_in_promotion : (is_open : Type 0) (old : Book) (h : History) (config : ConfigValue) (from to : List ℕ) (moment : ℕ) (fault : Fault) → IsKept is_open old h → moment ≤ latest → config ≡ old.config
    → suites_fault (suite_named config from) (suite_named config to) ≡ Some fault → promotion_fault h.opening.config from to moment ≡ Some fault
named_in_promotion is_open old h config from to moment fault kept in_time is_config is =
    in_time_fault h.opening.config from to moment in_time
    ∙ subst (λ (c : ConfigValue). suites_fault (suite_named c from) (suite_named c to) ≡ Some fault) (is_config ∙ kept.config) is

-- a promotion within its time between two suites is not refused by its arguments and the configuration
pub free_promotion : (h : History) (old : Book) (config : ConfigValue) (from to : List ℕ) (sources : Option (List (List ℕ))) (moment f t : ℕ) (is_open : Type 0) → IsKept is_open old h → config ≡ old.config → moment ≤ latest → AreSuites config from to f t
    → is_refused h (Promoting from to sources moment) ≡ false
unfolding is_refused
free_promotion h old config from to sources moment f t is_open kept is_config in_time suites =
    let here = subst (λ c. AreSuites c from to f t) (is_config ∙ kept.config) suites in
    rw (le-ltb latest moment in_time, here.from_named, here.to_named) here.other

-- ---- a promotion that is done

-- the steps of a promotion, on what is shown
promotion_steps : (old now : Book) (config : ConfigValue) (shelves : ShelvesValue) (f t : ℕ) (sources : List (List ℕ)) (steps given : List Step)
    → now ≡ old → shelves ≡ old.shown → given ≡ steps → AreCopied config f t shelves sources steps → AreSteps now.shown given
promotion_steps old now config shelves f t sources steps given same is_shown is_given copied =
    subst (λ m. AreSteps m given) (is_shown ∙ ap (λ (b : Book). b.shown) (sym same)) (subst (AreSteps shelves) (sym is_given) (copies_are_steps config f t shelves sources steps copied))

-- what they leave shown
promotion_past : (old now : Book) (config : ConfigValue) (shelves after : ShelvesValue) (f t : ℕ) (sources : List (List ℕ)) (steps given : List Step)
    → now ≡ old → shelves ≡ old.shown → given ≡ steps → AreCopied config f t shelves sources steps → after ≡ after_copies config f t shelves sources → after ≡ shown_past now.shown given
promotion_past old now config shelves after f t sources steps given same is_shown is_given copied is =
    is ∙ past_copies config f t shelves sources steps copied
    ∙ ap (λ (m : ShelvesValue). shown_past m steps) (is_shown ∙ ap (λ (b : Book). b.shown) (sym same))
    ∙ ap (shown_past now.shown) (sym is_given)

-- the steps copy what the book shows
copied_on : (old : Book) (config : ConfigValue) (shelves : ShelvesValue) (f t : ℕ) (names : List (List ℕ)) (sources : Option (List (List ℕ))) (steps : List Step)
    → config ≡ old.config → shelves ≡ old.shown → names ≡ sources_from shelves f sources → AreCopied config f t shelves names steps
    → AreCopied old.config f t old.shown (sources_from old.shown f sources) steps
copied_on old config shelves f t names sources steps is_config is_shown is_names copied =
    subst (λ (s : ShelvesValue). AreCopied old.config f t s (sources_from s f sources) steps) is_shown
    (subst (λ (c : ConfigValue). AreCopied c f t shelves (sources_from shelves f sources) steps) is_config
    (subst (λ (ns : List (List ℕ)). AreCopied config f t shelves ns steps) is_names copied))

-- if records describe what is shown, they still do so after the copies
abbrev pub StaysCopied : ConfigValue → ShelvesValue → ℕ → ℕ → List (List ℕ) → Type 0
StaysCopied config shelves f t sources = AreTold config.suites shelves → AreTold config.suites (after_copies config f t shelves sources)

promotion_told : (now : Book) (config : ConfigValue) (shelves : ShelvesValue) (f t : ℕ) (sources : List (List ℕ)) (steps made : List Step)
    → config ≡ now.config → shelves ≡ now.shown → made ≡ steps → AreCopied config f t shelves sources steps → StaysCopied config shelves f t sources
    → AreTold now.config.suites now.shown → AreTold now.config.suites (shown_past now.shown made)
promotion_told now config shelves f t sources steps made is_config is_shown is_steps copied stays =
    subst (λ (c : ConfigValue). AreTold c.suites now.shown → AreTold c.suites (shown_past now.shown made)) is_config
    (subst (λ (s : ShelvesValue). AreTold config.suites s → AreTold config.suites (shown_past s made)) is_shown
    (λ told. subst (AreTold config.suites) (past_copies config f t shelves sources steps copied ∙ ap (shown_past shelves) (sym is_steps)) (stays told)))

-- the steps of a promotion are planned
pub planned_promotion : (moment : ℕ) (old now : Book) (config : ConfigValue) (shelves after : ShelvesValue) (f t : ℕ) (sources : List (List ℕ)) (steps made : List Step)
    → now ≡ old → config ≡ now.config → shelves ≡ old.shown → made ≡ steps → AreCopied config f t shelves sources steps → StaysCopied config shelves f t sources
    → after ≡ after_copies config f t shelves sources
    → IsPlanned now moment made after
planned_promotion moment old now config shelves after f t sources steps made same is_config is_shown is_steps copied stays is =
    let none : judgements made ≡ [] = ap judgements is_steps ∙ copies_judge_none config f t shelves sources steps copied in
    record {
      plans = promotion_steps old now config shelves f t sources steps made same is_shown is_steps copied;
      judged = subst (λ (js : List Judgement). map sign_on js ≡ map sign_of (take (length js) (due (at_moment moment now)))) (sym none) refl;
      told = promotion_told now config shelves f t sources steps made is_config (is_shown ∙ ap (λ (b : Book). b.shown) (sym same)) is_steps copied stays;
      shown = promotion_past old now config shelves after f t sources steps made same is_shown is_steps copied is;
    }

-- A promotion, if what the keeper says holds for all bodies without collision.
module _ (may_fail : Bool) (h : History) (from to : List ℕ) (sources : Option (List (List ℕ))) (moment f t : ℕ) (old now : Book) (config : ConfigValue) (shelves : ShelvesValue) (names : List (List ℕ)) (steps made : List Step)
    (stands : Stands old h) (faithful : IsFaithful h (Promoting from to sources moment ∷ [])) (in_time : moment ≤ latest)
    (same : now ≡ old) (is_shown : shelves ≡ old.shown) (is_steps : made ≡ steps)
    (suites : AreSuites old.config from to f t) (is_config : config ≡ now.config) (is_names : names ≡ sources_from shelves f sources)
    (sound : AreSound shelves) (copied : AreCopied config f t shelves names steps) where
  is_config_old : config ≡ old.config
  is_config_old = is_config ∙ ap (λ (b : Book). b.config) same

  sound_here : AreSound old.shown
  sound_here = subst AreSound is_shown sound

  copied_here : AreCopied old.config f t old.shown (sources_from old.shown f sources) steps
  copied_here = copied_on old config shelves f t names sources steps is_config_old is_shown is_names copied

  -- what the copies answer is what they answer on what the book shows
  answers_here : copies_on config f t shelves names steps ≡ copies_on old.config f t old.shown (sources_from old.shown f sources) steps
  answers_here =
      ap (λ (ns : List (List ℕ)). copies_on config f t shelves ns steps) is_names
      ∙ ap (λ (c : ConfigValue). copies_on c f t shelves (sources_from shelves f sources) steps) is_config_old
      ∙ ap (λ (s : ShelvesValue). copies_on old.config f t s (sources_from s f sources) steps) is_shown

  -- the book has a body for each file that the pool then has
  has : HasEachBody old (steps_at moment made)
  has =
      subst (λ (xs : List Step). HasEachBody old (steps_at moment xs)) (sym is_steps)
      (promotion_has h from to sources moment f t old steps stands faithful sound_here copied_here)

  does : (is_open : Type 0) (new : Book) → new ≡ amended old (steps_at moment made)
      → IsStep may_fail h (Promoting from to sources moment) (Ok (Copies (copies_on old.config f t old.shown (sources_from old.shown f sources) steps))) is_open new
  does is_open new is =
      promotion_step may_fail h from to sources moment f t is_open old new steps stands faithful (le-ltb latest moment in_time) sound_here suites.from_named suites.to_named suites.other copied_here
      (is ∙ ap (λ xs. amended old (steps_at moment xs)) is_steps)

  -- a promotion that is done
  pub done_promotion : (is_open : Type 0) (new : Book) (copies : List (List ℕ × Option ℕ)) → OnceAmended now moment made (λ book. new ≡ book) → copies ≡ copies_on config f t shelves names steps
      → IsStep may_fail h (Promoting from to sources moment) (Ok (Copies copies)) is_open new
  done_promotion is_open new copies is are =
      subst (λ (cs : List (List ℕ × Option ℕ)). IsStep may_fail h (Promoting from to sources moment) (Ok (Copies cs)) is_open new) (sym (are ∙ answers_here))
      (does is_open new (said_amended h (Promoting from to sources moment) moment old now made stands faithful same has (λ book. new ≡ book) is))

  -- what a crash leaves that has all of it
  pub left_promotion : (left : Option Book) → OnceAmended now moment made (λ book. left ≡ Some book)
      → left ≡ Some (book_of (followed h (Promoting from to sources moment) (answer h (Promoting from to sources moment))))
  left_promotion left is =
      left_amended h (Promoting from to sources moment) moment old now made stands faithful same has may_fail (Copies (copies_on old.config f t old.shown (sources_from old.shown f sources) steps)) left is
      (does ⊤ (amended old (steps_at moment made)) refl)
