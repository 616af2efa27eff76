-- The answers of copies, from what the keeper and the plan say.
use Rattle.std.proofs.Common.{◌≡◌, ◌<◌, ◌≤◌, ℕ, Bool, true, false, List, [], ◌∷◌, map, take, length, Option, Some, None, Ok, Err, refl, sym, ap, subst, ◌∙◌, nat_lt, nat_eq, if◌then◌else◌}
use Rattle.std.specs.Prelude.{bytes_eq, not, position, ⊤}
use Rattle.std.specs.FinMap.{entries}
use Rattle.std.specs.List.{list_any}
use Rattle.std.proofs.lemmas.Bool.{lt-ltb, le-ltb}
use Rattle.std.proofs.lemmas.List.Quantifiers.{position-Some}
use Rattle.std.proofs.lemmas.Option.{same_Some}
use Rattle.rules.specs.Values.{ConfigValue}
use Rattle.rules.specs.declared.suite.Suite.{Suite}
use Rattle.rules.specs.Suites as rules
use Rattle.suites.specs.Plan as plans
use Rattle.suites.specs.Shelves.{ShelvesValue}
use Rattle.suites.specs.Told.{AreTold}
use Rattle.suites.specs.declared.plan.Plan.{Plan}
use Rattle.suites.proofs.ToldLemmas.{told_after_copy}
use Rattle.suites.specs.Plan.{is_of_source}
use Rattle.book.specs.Book.{Book, amended, at_moment, due, judgements, latest, shown_past}
use Rattle.book.specs.Keeping.{AreSteps, HasEachBody, sign_of, sign_on}
use Rattle.book.specs.declared.change.Step.{Step}
use Rattle.history.specs.Amending.{IsPlanned, OnceAmended, steps_at}
use Rattle.history.specs.Answers.{IsAnswer, IsFaithful, IsKept, IsStep, answer, is_free_copy, is_refused}
use Rattle.history.specs.Archives.{Stands, archive, book_from, book_of, is_shown_of, shown_by_print, shown_in, suite_named}
use Rattle.history.specs.Copies.{AreSuites, IsCopy, copy_fault, shows_source, source_fault, suites_fault}
use Rattle.history.specs.Deliveries.{or_else}
use Rattle.history.specs.Histories.{Copying, Count, History, followed}
use Rattle.history.specs.declared.fault.Fault.{Fault}
use Rattle.history.specs.declared.fault.Fault.TheVariants.{Moment, UnknownSuite, SameSuite, NothingToCopy}
use Rattle.history.proofs.Amended.{left_amended, said_amended}
use Rattle.history.proofs.Kept.{IsSame}
use Rattle.history.proofs.SimulationCopies.{copy_has, copy_step, copy_step_of, shown_of-printed}
use Rattle.history.proofs.StepAnswers.{refused_step}

-- ---- the fault

place_in : {X : Type 0} (p : X → Bool) (xs : List X) (i : ℕ) → position p xs ≡ Some i → i < length xs
place_in p [] i h = cc
place_in p (x ∷ xs) i h = (position-Some p (x ∷ xs) i x h).0

-- a suite that is named is one of the configuration
pub named_place : (config : ConfigValue) (name : List ℕ) (i : ℕ) → suite_named config name ≡ Some i → i < length config.suites
unfolding rules.suite_named
named_place config name i h = place_in (λ (s : Suite). bytes_eq s.codename name) config.suites i h

pub late_fault : (book : Book) (from to source : List ℕ) (moment : ℕ) → latest < moment → copy_fault book from to source moment ≡ Some Moment
unfolding copy_fault
late_fault book from to source moment late = rw (lt-ltb latest moment late) refl

in_time_fault : (book : Book) (from to source : List ℕ) (moment : ℕ) → moment ≤ latest
    → copy_fault book from to source moment ≡ or_else (suites_fault (suite_named book.config from) (suite_named book.config to)) (source_fault book.shown (suite_named book.config from) source)
unfolding copy_fault
in_time_fault book from to source moment in_time = rw (le-ltb latest moment in_time) refl

pub named_fault : (book : Book) (config : ConfigValue) (from to source : List ℕ) (moment : ℕ) (fault : Fault) → moment ≤ latest → config ≡ book.config
    → suites_fault (suite_named config from) (suite_named config to) ≡ Some fault → copy_fault book from to source moment ≡ Some fault
named_fault book config from to source moment fault in_time is_config is =
    in_time_fault book from to source moment in_time
    ∙ ap (λ (o : Option Fault). or_else o (source_fault book.shown (suite_named book.config from) source))
    (subst (λ c. suites_fault (suite_named c from) (suite_named c to) ≡ Some fault) is_config is)

-- if the suites are there, the fault depends on whether the first shows something
between : (book : Book) (config : ConfigValue) (shelves : ShelvesValue) (from to source : List ℕ) (moment f t : ℕ) (shows : Bool) → moment ≤ latest → config ≡ book.config → shelves ≡ book.shown
    → AreSuites config from to f t → shows_source shelves f source ≡ shows → copy_fault book from to source moment ≡ (if shows then None else Some NothingToCopy)
between book config shelves from to source moment f t shows in_time is_config is_shown suites is =
    let here = subst (λ c. AreSuites c from to f t) is_config suites in
    let told : shows_source book.shown f source ≡ shows = ap (λ s. shows_source s f source) (sym is_shown) ∙ is in
    in_time_fault book from to source moment in_time ∙ rw (here.from_named, here.to_named, here.other, told) refl

pub nothing_fault : (book : Book) (config : ConfigValue) (shelves : ShelvesValue) (from to source : List ℕ) (moment f t : ℕ) → moment ≤ latest → config ≡ book.config → shelves ≡ book.shown
    → AreSuites config from to f t → shows_source shelves f source ≡ false → copy_fault book from to source moment ≡ Some NothingToCopy
nothing_fault book config shelves from to source moment f t in_time is_config is_shown suites is = between book config shelves from to source moment f t false in_time is_config is_shown suites is

pub no_fault : (book : Book) (config : ConfigValue) (shelves : ShelvesValue) (from to source : List ℕ) (moment f t : ℕ) → moment ≤ latest → config ≡ book.config → shelves ≡ book.shown
    → AreSuites config from to f t → shows_source shelves f source ≡ true → copy_fault book from to source moment ≡ None
no_fault book config shelves from to source moment f t in_time is_config is_shown suites is = between book config shelves from to source moment f t true in_time is_config is_shown suites is

-- ---- refusals

shows_in : (h : History) (from : ℕ) (source : List ℕ) → list_any (is_shown_of from source) (entries (shown_in (archive h))) ≡ shows_source (shown_by_print (archive h)) from source
unfolding shows_source is_of_source
shows_in h from source = sym (shown_of-printed (archive h) from source)

module _ (may_fail : Bool) (h : History) (from to source : List ℕ) (moment : ℕ) (fault : Fault) where
  told : (own : Fault) → Some own ≡ Some fault → IsAnswer may_fail h (Copying from to source moment) (Err own) → IsAnswer may_fail h (Copying from to source moment) (Err fault)
  told own is allowed = subst (λ (f : Fault). IsAnswer may_fail h (Copying from to source moment) (Err f)) (same_Some own fault is) allowed

  by_shows : (f t : ℕ) → nat_lt latest moment ≡ false → suite_named h.opening.config from ≡ Some f → suite_named h.opening.config to ≡ Some t → nat_eq f t ≡ false
      → (b : Bool) → shows_source (shown_by_print (archive h)) f source ≡ b → (if b then None else Some NothingToCopy) ≡ Some fault → IsAnswer may_fail h (Copying from to source moment) (Err fault)
  unfolding answer
  by_shows f t in_time first second other true shows is = cc
  by_shows f t in_time first second other false shows is =
      let none = shows_in h f source ∙ shows in
      told NothingToCopy is (rw (in_time, first, second, other, none) refl)

  by_other : (f t : ℕ) → nat_lt latest moment ≡ false → suite_named h.opening.config from ≡ Some f → suite_named h.opening.config to ≡ Some t
      → (b : Bool) → nat_eq f t ≡ b → or_else (if b then Some SameSuite else None) (if shows_source (shown_by_print (archive h)) f source then None else Some NothingToCopy) ≡ Some fault
      → IsAnswer may_fail h (Copying from to source moment) (Err fault)
  unfolding answer
  by_other f t in_time first second true same is = told SameSuite is (rw (in_time, first, second, same) refl)
  by_other f t in_time first second false other is = by_shows f t in_time first second other (shows_source (shown_by_print (archive h)) f source) refl is

  by_suites : nat_lt latest moment ≡ false → (f t : Option ℕ) → suite_named h.opening.config from ≡ f → suite_named h.opening.config to ≡ t
      → or_else (suites_fault f t) (source_fault (shown_by_print (archive h)) f source) ≡ Some fault → IsAnswer may_fail h (Copying from to source moment) (Err fault)
  unfolding answer
  by_suites in_time None t first second is = told UnknownSuite is (rw (in_time, first) refl)
  by_suites in_time (Some f) None first second is = told UnknownSuite is (rw (in_time, first, second) refl)
  by_suites in_time (Some f) (Some t) first second is = by_other f t in_time first second (nat_eq f t) refl is

  by_late : (b : Bool) → nat_lt latest moment ≡ b
      → (if b then Some Moment else or_else (suites_fault (suite_named h.opening.config from) (suite_named h.opening.config to)) (source_fault (shown_by_print (archive h)) (suite_named h.opening.config from) source)) ≡ Some fault
      → IsAnswer may_fail h (Copying from to source moment) (Err fault)
  unfolding answer
  by_late true late is = told Moment is (rw late refl)
  by_late false in_time is = by_suites in_time (suite_named h.opening.config from) (suite_named h.opening.config to) refl refl is

  -- the fault is the answer
  fault_answered : copy_fault (book_of h) from to source moment ≡ Some fault → IsAnswer may_fail h (Copying from to source moment) (Err fault)
  unfolding copy_fault book_of book_from
  fault_answered is = by_late (nat_lt latest moment) refl is

  -- a copy that is refused for what the history has
  pub refused_copy : (was_open is_open : Type 0) (old new : Book) → IsKept was_open old h → IsSame was_open is_open old new → copy_fault (book_of h) from to source moment ≡ Some fault
      → IsStep may_fail h (Copying from to source moment) (Err fault) is_open new
  refused_copy was_open is_open old new kept same is =
      refused_step may_fail h (Copying from to source moment) fault was_open is_open old new kept same (fault_answered is)

-- the fault by the suites is that of the history, open or not
pub named_in : (is_open : Type 0) (old : Book) (h : History) (config : ConfigValue) (from to source : List ℕ) (moment : ℕ) (fault : Fault) → IsKept is_open old h → moment ≤ latest → config ≡ old.config
    → suites_fault (suite_named config from) (suite_named config to) ≡ Some fault → copy_fault (book_of h) from to source moment ≡ Some fault
unfolding book_of book_from
named_in is_open old h config from to source moment fault kept in_time is_config is =
    named_fault (book_of h) config from to source moment fault in_time (is_config ∙ kept.config) is

-- a copy within its time between two suites is not refused by its arguments and the configuration
pub free_copy : (h : History) (old : Book) (config : ConfigValue) (from to source : List ℕ) (moment f t : ℕ) (is_open : Type 0) → IsKept is_open old h → config ≡ old.config → moment ≤ latest → AreSuites config from to f t
    → is_refused h (Copying from to source moment) ≡ false
unfolding is_refused
free_copy h old config from to source moment f t is_open kept is_config in_time suites =
    let here = subst (λ c. AreSuites c from to f t) (is_config ∙ kept.config) suites in
    rw (le-ltb latest moment in_time, here.from_named, here.to_named) here.other

pub may_copy : (old : Book) (config : ConfigValue) (from to : List ℕ) (moment f t : ℕ) → config ≡ old.config → moment ≤ latest → AreSuites config from to f t → is_free_copy old.config from to moment ≡ true
unfolding is_free_copy
may_copy old config from to moment f t is_config in_time suites =
    let here = subst (λ c. AreSuites c from to f t) is_config suites in
    rw (le-ltb latest moment in_time, here.from_named, here.to_named) (ap not here.other)

-- ---- a copy that is done

-- the step of a copy, on what is shown
copy_steps : (old now : Book) (config : ConfigValue) (shelves : ShelvesValue) (f t : ℕ) (source : List ℕ) (plan : Plan) (made : List Step)
    → now ≡ old → shelves ≡ old.shown → made ≡ copy_step_of plan ∷ [] → IsCopy config shelves f t source plan → AreSteps now.shown made
copy_steps old now config shelves f t source plan made same is_shown is_steps copy =
    let after = plans.after_copy config shelves f t source in
    subst (AreSteps now.shown) (sym is_steps) ((after, subst (λ s. plans.IsStep s after plan) (is_shown ∙ ap (λ (b : Book). b.shown) (sym same)) copy.step), tt)

-- what it leaves shown
copy_past : (old now : Book) (shelves after : ShelvesValue) (plan : Plan) (made : List Step)
    → now ≡ old → shelves ≡ old.shown → made ≡ copy_step_of plan ∷ [] → after ≡ plans.applied shelves plan → after ≡ shown_past now.shown made
copy_past old now shelves after plan made same is_shown is_steps is =
    is ∙ ap (λ (m : ShelvesValue). plans.applied m plan) (is_shown ∙ ap (λ (b : Book). b.shown) (sym same)) ∙ ap (shown_past now.shown) (sym is_steps)

-- the plan is a copy of what the book shows
copy_on : (old : Book) (config : ConfigValue) (shelves : ShelvesValue) (f t : ℕ) (source : List ℕ) (plan : Plan) → config ≡ old.config → shelves ≡ old.shown → IsCopy config shelves f t source plan
    → IsCopy old.config old.shown f t source plan
copy_on old config shelves f t source plan is_config is_shown copy =
    subst (λ c. IsCopy c old.shown f t source plan) is_config (subst (λ s. IsCopy config s f t source plan) is_shown copy)

-- if records describe what it shows, they still do so afterwards
copy_told : (now : Book) (config : ConfigValue) (shelves : ShelvesValue) (f t : ℕ) (source : List ℕ) (plan : Plan) (made : List Step)
    → config ≡ now.config → shelves ≡ now.shown → made ≡ copy_step_of plan ∷ [] → IsCopy config shelves f t source plan
    → AreTold now.config.suites now.shown → AreTold now.config.suites (shown_past now.shown made)
copy_told now config shelves f t source plan made is_config is_shown is_steps copy told =
    let here = copy_on now config shelves f t source plan is_config is_shown copy in
    subst (AreTold now.config.suites) (here.step.items.made ∙ ap (shown_past now.shown) (sym is_steps)) (told_after_copy now.config now.shown f t source told)

-- the step of a copy is planned
pub planned_copy : (moment : ℕ) (old now : Book) (config : ConfigValue) (shelves after : ShelvesValue) (f t : ℕ) (source : List ℕ) (plan : Plan) (made : List Step)
    → now ≡ old → config ≡ now.config → shelves ≡ old.shown → made ≡ copy_step_of plan ∷ [] → IsCopy config shelves f t source plan → after ≡ plans.applied shelves plan
    → IsPlanned now moment made after
planned_copy moment old now config shelves after f t source plan made same is_config is_shown is_steps copy is = record {
  plans = copy_steps old now config shelves f t source plan made same is_shown is_steps copy;
  judged = subst (λ xs. map sign_on (judgements xs) ≡ map sign_of (take (length (judgements xs)) (due (at_moment moment now)))) (sym is_steps) refl;
  told = copy_told now config shelves f t source plan made is_config (is_shown ∙ ap (λ (b : Book). b.shown) (sym same)) is_steps copy;
  shown = copy_past old now shelves after plan made same is_shown is_steps is;
}

-- A copy, if what the keeper says holds for all bodies without collision.
module _ (may_fail : Bool) (h : History) (from to source : List ℕ) (moment f t : ℕ) (old now : Book) (config : ConfigValue) (shelves : ShelvesValue) (plan : Plan) (made : List Step)
    (stands : Stands old h) (faithful : IsFaithful h (Copying from to source moment ∷ [])) (in_time : moment ≤ latest)
    (same : now ≡ old) (is_shown : shelves ≡ old.shown) (is_steps : made ≡ copy_step_of plan ∷ [])
    (suites : AreSuites old.config from to f t) (is_config : config ≡ now.config) (copied : IsCopy config shelves f t source plan) where
  copy : IsCopy old.config old.shown f t source plan
  copy = copy_on old config shelves f t source plan (is_config ∙ ap (λ (b : Book). b.config) same) is_shown copied

  -- the book has a body for each file that the pool then has
  has : HasEachBody old (steps_at moment made)
  has =
      subst (λ (xs : List Step). HasEachBody old (steps_at moment xs)) (sym is_steps)
      (copy_has h from to source moment f t old plan stands faithful copy.sound copy.step)

  does : (is_open : Type 0) (new : Book) → new ≡ amended old (steps_at moment made) → IsStep may_fail h (Copying from to source moment) (Ok (Count (length plan.put))) is_open new
  unfolding shows_source is_of_source
  does is_open new is =
      copy_step may_fail h from to source moment f t is_open old new plan stands faithful (le-ltb latest moment in_time) copy.sound suites.from_named suites.to_named suites.other copy.shows copy.step
      (is ∙ ap (λ xs. amended old (steps_at moment xs)) is_steps)

  -- a copy that is done
  pub done_copy : (is_open : Type 0) (new : Book) (items : ℕ) → OnceAmended now moment made (λ book. new ≡ book) → items ≡ length plan.put
      → IsStep may_fail h (Copying from to source moment) (Ok (Count items)) is_open new
  done_copy is_open new items is count =
      subst (λ n. IsStep may_fail h (Copying from to source moment) (Ok (Count n)) is_open new) (sym count)
      (does is_open new (said_amended h (Copying from to source moment) moment old now made stands faithful same has (λ book. new ≡ book) is))

  -- what a crash leaves that has all of it
  pub left_copy : (left : Option Book) → OnceAmended now moment made (λ book. left ≡ Some book)
      → left ≡ Some (book_of (followed h (Copying from to source moment) (answer h (Copying from to source moment))))
  left_copy left is =
      left_amended h (Copying from to source moment) moment old now made stands faithful same has may_fail (Count (length plan.put)) left is
      (does ⊤ (amended old (steps_at moment made)) refl)
