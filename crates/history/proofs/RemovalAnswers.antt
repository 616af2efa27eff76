-- The answers of removals, from what the keeper and the plan say.
use Rattle.std.proofs.Common.{◌≡◌, ◌<◌, ◌≤◌, ℕ, Bool, true, false, List, [], ◌∷◌, map, take, length, Option, Some, None, Ok, Err, refl, sym, ap, subst, ◌∙◌, nat_lt, if◌then◌else◌}
use Rattle.std.specs.Prelude.{⊤}
use Rattle.std.specs.FinMap.{entries}
use Rattle.std.specs.List.{list_any}
use Rattle.std.proofs.lemmas.Bool.{lt-ltb, le-ltb}
use Rattle.std.proofs.lemmas.Option.{same_Some}
use Rattle.rules.specs.Values.{ConfigValue}
use Rattle.suites.specs.Plan as plans
use Rattle.suites.specs.Plan.{is_removed}
use Rattle.suites.specs.Shelves.{ShelvesValue}
use Rattle.suites.specs.Told.{AreTold}
use Rattle.suites.specs.declared.plan.Plan.{Plan}
use Rattle.suites.proofs.RemovalLemmas.{told_after_removal}
use Rattle.book.specs.Book.{Book, amended, at_moment, due, judgements, latest, shown_past}
use Rattle.book.specs.Keeping.{AreSteps, HasEachBody, sign_of, sign_on}
use Rattle.book.specs.declared.change.Step.{Step}
use Rattle.history.specs.Amending.{IsPlanned, OnceAmended, steps_at}
use Rattle.history.specs.Answers.{IsAnswer, IsFaithful, IsKept, IsStep, answer, is_free_removal, is_refused}
use Rattle.history.specs.Archives.{Stands, archive, book_from, book_of, shown_by_print, shown_in, suite_named}
use Rattle.history.specs.Deliveries.{or_else}
use Rattle.history.specs.Histories.{Removing, Count, History, followed}
use Rattle.history.specs.Removals.{IsRemoval, package_fault, removal_fault, shows_package, suite_fault}
use Rattle.history.specs.declared.fault.Fault.{Fault}
use Rattle.history.specs.declared.fault.Fault.TheVariants.{Moment, UnknownSuite, NothingToRemove}
use Rattle.history.proofs.Amended.{left_amended, said_amended}
use Rattle.history.proofs.Kept.{IsSame}
use Rattle.history.proofs.SimulationRemovals.{removal_has, removal_step, removal_step_of, shows-printed}
use Rattle.history.proofs.StepAnswers.{refused_step}

-- ---- the fault

pub late_fault : (book : Book) (suite name : List ℕ) (moment : ℕ) → latest < moment → removal_fault book suite name moment ≡ Some Moment
unfolding removal_fault
late_fault book suite name moment late = rw (lt-ltb latest moment late) refl

in_time_fault : (book : Book) (suite name : List ℕ) (moment : ℕ) → moment ≤ latest
    → removal_fault book suite name moment ≡ or_else (suite_fault (suite_named book.config suite)) (package_fault book.shown (suite_named book.config suite) name)
unfolding removal_fault
in_time_fault book suite name moment in_time = rw (le-ltb latest moment in_time) refl

pub unknown_fault : (book : Book) (config : ConfigValue) (suite name : List ℕ) (moment : ℕ) (fault : Fault) → moment ≤ latest → config ≡ book.config
    → suite_fault (suite_named config suite) ≡ Some fault → removal_fault book suite name moment ≡ Some fault
unknown_fault book config suite name moment fault in_time is_config is =
    in_time_fault book suite name moment in_time
    ∙ ap (λ (o : Option Fault). or_else o (package_fault book.shown (suite_named book.config suite) name))
    (subst (λ c. suite_fault (suite_named c suite) ≡ Some fault) is_config is)

-- if the suite is there, the fault depends on whether it shows something
shown_fault : (book : Book) (config : ConfigValue) (shelves : ShelvesValue) (suite name : List ℕ) (moment place : ℕ) (shows : Bool) → moment ≤ latest → config ≡ book.config → shelves ≡ book.shown
    → suite_named config suite ≡ Some place → shows_package shelves place name ≡ shows → removal_fault book suite name moment ≡ (if shows then None else Some NothingToRemove)
shown_fault book config shelves suite name moment place shows in_time is_config is_shown named is =
    let here : suite_named book.config suite ≡ Some place = subst (λ c. suite_named c suite ≡ Some place) is_config named in
    let told : shows_package book.shown place name ≡ shows = ap (λ s. shows_package s place name) (sym is_shown) ∙ is in
    in_time_fault book suite name moment in_time ∙ rw (here, told) refl

pub nothing_fault : (book : Book) (config : ConfigValue) (shelves : ShelvesValue) (suite name : List ℕ) (moment place : ℕ) → moment ≤ latest → config ≡ book.config → shelves ≡ book.shown
    → suite_named config suite ≡ Some place → shows_package shelves place name ≡ false → removal_fault book suite name moment ≡ Some NothingToRemove
nothing_fault book config shelves suite name moment place in_time is_config is_shown named is = shown_fault book config shelves suite name moment place false in_time is_config is_shown named is

pub no_fault : (book : Book) (config : ConfigValue) (shelves : ShelvesValue) (suite name : List ℕ) (moment place : ℕ) → moment ≤ latest → config ≡ book.config → shelves ≡ book.shown
    → suite_named config suite ≡ Some place → shows_package shelves place name ≡ true → removal_fault book suite name moment ≡ None
no_fault book config shelves suite name moment place in_time is_config is_shown named is = shown_fault book config shelves suite name moment place true in_time is_config is_shown named is

-- ---- refusals

shows_in : (h : History) (suite : ℕ) (name : List ℕ) → list_any (is_removed suite name) (entries (shown_in (archive h))) ≡ shows_package (shown_by_print (archive h)) suite name
unfolding shows_package
shows_in h suite name = sym (shows-printed (archive h) suite name)

module _ (may_fail : Bool) (h : History) (suite name : List ℕ) (moment : ℕ) (fault : Fault) where
  told : (own : Fault) → Some own ≡ Some fault → IsAnswer may_fail h (Removing suite name moment) (Err own) → IsAnswer may_fail h (Removing suite name moment) (Err fault)
  told own is allowed = subst (λ (f : Fault). IsAnswer may_fail h (Removing suite name moment) (Err f)) (same_Some own fault is) allowed

  by_shows : (place : ℕ) → nat_lt latest moment ≡ false → suite_named h.opening.config suite ≡ Some place
      → (b : Bool) → shows_package (shown_by_print (archive h)) place name ≡ b → (if b then None else Some NothingToRemove) ≡ Some fault → IsAnswer may_fail h (Removing suite name moment) (Err fault)
  unfolding answer
  by_shows place in_time named true shows is = cc
  by_shows place in_time named false shows is =
      let none = shows_in h place name ∙ shows in
      told NothingToRemove is (rw (in_time, named, none) refl)

  by_suite : nat_lt latest moment ≡ false → (s : Option ℕ) → suite_named h.opening.config suite ≡ s
      → or_else (suite_fault s) (package_fault (shown_by_print (archive h)) s name) ≡ Some fault → IsAnswer may_fail h (Removing suite name moment) (Err fault)
  unfolding answer
  by_suite in_time None named is = told UnknownSuite is (rw (in_time, named) refl)
  by_suite in_time (Some place) named is = by_shows place in_time named (shows_package (shown_by_print (archive h)) place name) refl is

  by_late : (b : Bool) → nat_lt latest moment ≡ b
      → (if b then Some Moment else or_else (suite_fault (suite_named h.opening.config suite)) (package_fault (shown_by_print (archive h)) (suite_named h.opening.config suite) name)) ≡ Some fault
      → IsAnswer may_fail h (Removing suite name moment) (Err fault)
  unfolding answer
  by_late true late is = told Moment is (rw late refl)
  by_late false in_time is = by_suite in_time (suite_named h.opening.config suite) refl is

  -- the fault is the answer
  fault_answered : removal_fault (book_of h) suite name moment ≡ Some fault → IsAnswer may_fail h (Removing suite name moment) (Err fault)
  unfolding removal_fault book_of book_from
  fault_answered is = by_late (nat_lt latest moment) refl is

  -- a removal that is refused for what the history has
  pub refused_removal : (was_open is_open : Type 0) (old new : Book) → IsKept was_open old h → IsSame was_open is_open old new → removal_fault (book_of h) suite name moment ≡ Some fault
      → IsStep may_fail h (Removing suite name moment) (Err fault) is_open new
  refused_removal was_open is_open old new kept same is =
      refused_step may_fail h (Removing suite name moment) fault was_open is_open old new kept same (fault_answered is)

-- the fault by the suite is that of the history, open or not
pub unknown_in : (is_open : Type 0) (old : Book) (h : History) (config : ConfigValue) (suite name : List ℕ) (moment : ℕ) (fault : Fault) → IsKept is_open old h → moment ≤ latest → config ≡ old.config
    → suite_fault (suite_named config suite) ≡ Some fault → removal_fault (book_of h) suite name moment ≡ Some fault
unfolding book_of book_from
unknown_in is_open old h config suite name moment fault kept in_time is_config is =
    unknown_fault (book_of h) config suite name moment fault in_time (is_config ∙ kept.config) is

-- a removal within its time from a suite that is there is not refused by its arguments and the configuration
pub free_removal : (h : History) (old : Book) (config : ConfigValue) (suite name : List ℕ) (moment place : ℕ) (is_open : Type 0) → IsKept is_open old h → config ≡ old.config → moment ≤ latest → suite_named config suite ≡ Some place
    → is_refused h (Removing suite name moment) ≡ false
unfolding is_refused
free_removal h old config suite name moment place is_open kept is_config in_time named =
    let here : suite_named h.opening.config suite ≡ Some place = subst (λ c. suite_named c suite ≡ Some place) (is_config ∙ kept.config) named in
    rw (le-ltb latest moment in_time, here) refl

pub may_remove : (old : Book) (config : ConfigValue) (suite : List ℕ) (moment place : ℕ) → config ≡ old.config → moment ≤ latest → suite_named config suite ≡ Some place → is_free_removal old.config suite moment ≡ true
unfolding is_free_removal
may_remove old config suite moment place is_config in_time named =
    let here : suite_named old.config suite ≡ Some place = subst (λ c. suite_named c suite ≡ Some place) is_config named in
    rw (le-ltb latest moment in_time, here) refl

-- ---- a removal that is done

-- the step of a removal, on what is shown
removal_steps : (old now : Book) (shelves : ShelvesValue) (place : ℕ) (name : List ℕ) (plan : Plan) (made : List Step)
    → now ≡ old → shelves ≡ old.shown → made ≡ removal_step_of plan ∷ [] → IsRemoval shelves place name plan → AreSteps now.shown made
removal_steps old now shelves place name plan made same is_shown is_steps removal =
    let after = plans.after_removal shelves place name in
    subst (AreSteps now.shown) (sym is_steps) ((after, subst (λ s. plans.IsStep s after plan) (is_shown ∙ ap (λ (b : Book). b.shown) (sym same)) removal.step), tt)

-- what it leaves shown
removal_past : (old now : Book) (shelves after : ShelvesValue) (plan : Plan) (made : List Step)
    → now ≡ old → shelves ≡ old.shown → made ≡ removal_step_of plan ∷ [] → after ≡ plans.applied shelves plan → after ≡ shown_past now.shown made
removal_past old now shelves after plan made same is_shown is_steps is =
    is ∙ ap (λ (m : ShelvesValue). plans.applied m plan) (is_shown ∙ ap (λ (b : Book). b.shown) (sym same)) ∙ ap (shown_past now.shown) (sym is_steps)

-- the plan is a removal from what the book shows
removal_on : (now : Book) (shelves : ShelvesValue) (place : ℕ) (name : List ℕ) (plan : Plan) → shelves ≡ now.shown → IsRemoval shelves place name plan → IsRemoval now.shown place name plan
removal_on now shelves place name plan is_shown removal = subst (λ s. IsRemoval s place name plan) is_shown removal

-- if records describe what it shows, they still do so afterwards
removal_told : (now : Book) (shelves : ShelvesValue) (place : ℕ) (name : List ℕ) (plan : Plan) (made : List Step)
    → shelves ≡ now.shown → made ≡ removal_step_of plan ∷ [] → IsRemoval shelves place name plan
    → AreTold now.config.suites now.shown → AreTold now.config.suites (shown_past now.shown made)
removal_told now shelves place name plan made is_shown is_steps removal told =
    let here = removal_on now shelves place name plan is_shown removal in
    subst (AreTold now.config.suites) (here.step.items.made ∙ ap (shown_past now.shown) (sym is_steps)) (told_after_removal now.shown place name now.config.suites told)

-- the step of a removal is planned
pub planned_removal : (moment : ℕ) (old now : Book) (shelves after : ShelvesValue) (place : ℕ) (name : List ℕ) (plan : Plan) (made : List Step)
    → now ≡ old → shelves ≡ old.shown → made ≡ removal_step_of plan ∷ [] → IsRemoval shelves place name plan → after ≡ plans.applied shelves plan
    → IsPlanned now moment made after
planned_removal moment old now shelves after place name plan made same is_shown is_steps removal is = record {
  plans = removal_steps old now shelves place name plan made same is_shown is_steps removal;
  judged = subst (λ xs. map sign_on (judgements xs) ≡ map sign_of (take (length (judgements xs)) (due (at_moment moment now)))) (sym is_steps) refl;
  told = removal_told now shelves place name plan made (is_shown ∙ ap (λ (b : Book). b.shown) (sym same)) is_steps removal;
  shown = removal_past old now shelves after plan made same is_shown is_steps is;
}

-- A removal, if what the keeper says holds for all bodies without collision.
module _ (may_fail : Bool) (h : History) (suite name : List ℕ) (moment place : ℕ) (old now : Book) (shelves : ShelvesValue) (plan : Plan) (made : List Step)
    (stands : Stands old h) (faithful : IsFaithful h (Removing suite name moment ∷ [])) (in_time : moment ≤ latest)
    (same : now ≡ old) (is_shown : shelves ≡ old.shown) (is_steps : made ≡ removal_step_of plan ∷ [])
    (named : suite_named old.config suite ≡ Some place) (taken : IsRemoval shelves place name plan) where
  removal : IsRemoval old.shown place name plan
  removal = removal_on old shelves place name plan is_shown taken

  -- the book has a body for each file that the pool then has
  has : HasEachBody old (steps_at moment made)
  has =
      subst (λ (xs : List Step). HasEachBody old (steps_at moment xs)) (sym is_steps)
      (removal_has h suite name moment place old plan stands faithful removal.sound removal.step removal.put removal.dropped)

  does : (is_open : Type 0) (new : Book) → new ≡ amended old (steps_at moment made) → IsStep may_fail h (Removing suite name moment) (Ok (Count (length plan.dropped))) is_open new
  unfolding shows_package
  does is_open new is =
      removal_step may_fail h suite name moment place is_open old new plan stands faithful (le-ltb latest moment in_time) removal.sound named removal.shows removal.step removal.put removal.dropped
      (is ∙ ap (λ xs. amended old (steps_at moment xs)) is_steps)

  -- a removal that is done
  pub done_removal : (is_open : Type 0) (new : Book) (items : ℕ) → OnceAmended now moment made (λ book. new ≡ book) → items ≡ length plan.dropped
      → IsStep may_fail h (Removing suite name moment) (Ok (Count items)) is_open new
  done_removal is_open new items is count =
      subst (λ n. IsStep may_fail h (Removing suite name moment) (Ok (Count n)) is_open new) (sym count)
      (does is_open new (said_amended h (Removing suite name moment) moment old now made stands faithful same has (λ book. new ≡ book) is))

  -- what a crash leaves that has all of it
  pub left_removal : (left : Option Book) → OnceAmended now moment made (λ book. left ≡ Some book)
      → left ≡ Some (book_of (followed h (Removing suite name moment) (answer h (Removing suite name moment))))
  left_removal left is =
      left_amended h (Removing suite name moment) moment old now made stands faithful same has may_fail (Count (length plan.dropped)) left is
      (does ⊤ (amended old (steps_at moment made)) refl)
