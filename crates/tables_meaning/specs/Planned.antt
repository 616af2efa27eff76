-- What a plan, the steps of a change and the whole of it make of the rows of an archive, and what they leave.
use Rattle.std.specs.Prelude.{◌≡◌, ◌≢◌, ◌<◌, ℕ, List, ◌++◌, All, AllPairs, length, IsTrue, is_some}
use Rattle.rules.specs.Values.{ConfigValue}
use Rattle.rules.specs.declared.suite.Suite.{Suite}
use Rattle.suites.specs.Plan.{IsStep}
use Rattle.suites.specs.Shelves.{ShelvesValue}
use Rattle.suites.specs.declared.plan.Plan.{Plan}
use Rattle.tables.specs.Bodies.{body_with}
use Rattle.tables.specs.Rows.{Tables}
use Rattle.book.specs.Book.{amended, dates_past, judgements, shown_past}
use Rattle.book.specs.Keeping.{AreSteps, HasEachBody}
use Rattle.book.specs.declared.change.Change.{Change}
use Rattle.book.specs.declared.change.Judgement.{Judgement}
use Rattle.book.specs.declared.change.Step.{Step}
use Rattle.tables_meaning.specs.Kept.{AreFiles, AreItems, AreNumbered, AreStored, IsBook, book_in}

-- The rows show what the plan was made for, and the plan can be made: what it puts stands in the suites, whose codenames
-- differ, and each file that it adds has its body.
pub record MayPlan (t : Tables) (suites : List Suite) (shown after : ShelvesValue) (plan : Plan) : Type 0 where
  pub numbered : AreNumbered t
  pub bodies : AreStored t
  pub items : AreItems t suites shown
  pub files : AreFiles t shown
  pub step : IsStep shown after plan
  pub inside : All (λ e. e.0.suite < length suites) plan.put
  pub codenames : AllPairs (λ s r. s.codename ≢ r.codename) suites
  pub arrived : All (λ f. IsTrue (is_some (body_with f.print t.bodies))) plan.files_added

-- only the rows of items, of their files and of the pool differ
pub record KeepsOthers (old new : Tables) : Type 0 where
  pub meta : new.meta ≡ old.meta
  pub bodies : new.bodies ≡ old.bodies
  pub pieces : new.pieces ≡ old.pieces
  pub arrivals : new.arrivals ≡ old.arrivals
  pub uploads : new.uploads ≡ old.uploads
  pub wants : new.wants ≡ old.wants
  pub texts : new.texts ≡ old.texts
  pub dates : new.dates ≡ old.dates

-- the rows are those of what is shown after a plan, and the others are as before
pub record IsPlanned (old new : Tables) (suites : List Suite) (shown : ShelvesValue) : Type 0 where
  pub items : AreItems new suites shown
  pub files : AreFiles new shown
  pub numbered : AreNumbered new
  pub others : KeepsOthers old new

-- The rows show what the first of these steps was made for, and each plan can be made in its turn.
pub record MayStep (t : Tables) (suites : List Suite) (shown : ShelvesValue) (steps : List Step) : Type 0 where
  pub numbered : AreNumbered t
  pub bodies : AreStored t
  pub items : AreItems t suites shown
  pub files : AreFiles t shown
  pub plans : AreSteps shown steps
  pub inside : All (λ s. All (λ e. e.0.suite < length suites) s.plan.put) steps
  pub codenames : AllPairs (λ s r. s.codename ≢ r.codename) suites
  pub arrived : All (λ s. All (λ f. IsTrue (is_some (body_with f.print t.bodies))) s.plan.files_added) steps

-- the rows are those of what is shown after steps, and besides them only those of uploads and of what they want may
-- differ
pub record IsStepped (old new : Tables) (suites : List Suite) (shown : ShelvesValue) : Type 0 where
  pub items : AreItems new suites shown
  pub files : AreFiles new shown
  pub numbered : AreNumbered new
  pub meta : new.meta ≡ old.meta
  pub bodies : new.bodies ≡ old.bodies
  pub pieces : new.pieces ≡ old.pieces
  pub arrivals : new.arrivals ≡ old.arrivals
  pub texts : new.texts ≡ old.texts
  pub dates : new.dates ≡ old.dates

-- The tables keep what a change leaves, and the book is the amended one if each body was there.
pub record KeepsChange (t new : Tables) (config : ConfigValue) (judged : List Judgement) (shown : ShelvesValue) (dates : List ℕ) (change : Change) : Type 0 where
  pub kept : IsBook new config (judged ++ judgements change.steps) (shown_past shown change.steps) (dates_past change.moment dates change.steps)
  pub book : HasEachBody (book_in config judged shown dates t) change
      → book_in config (judged ++ judgements change.steps) (shown_past shown change.steps) (dates_past change.moment dates change.steps) new
      ≡ amended (book_in config judged shown dates t) change
