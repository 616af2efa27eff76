-- Which copies are refused, and the plan of one that is not.
use Rattle.std.specs.Prelude.{◌≡◌, ℕ, Bool, true, false, nat_eq, nat_lt, if◌then◌else◌, List, Option, Some, None}
use Rattle.std.specs.FinMap.{entries}
use Rattle.std.specs.List.{list_any}
use Rattle.book.specs.Book.{Book, latest}
use Rattle.rules.specs.Values.{ConfigValue}
use Rattle.suites.specs.Plan.{IsStep, after_copy, is_of_source}
use Rattle.suites.specs.Shelves.{AreSound, ShelvesValue}
use Rattle.suites.specs.declared.plan.Plan.{Plan}
use Rattle.history.specs.Archives.{suite_named}
use Rattle.history.specs.Deliveries.{or_else}
use Rattle.history.specs.declared.fault.Fault.{Fault}
use Rattle.history.specs.declared.fault.Fault.TheVariants.{Moment, UnknownSuite, SameSuite, NothingToCopy}

-- the suite shows an item of the source package
unfoldable pub shows_source : ShelvesValue → ℕ → List ℕ → Bool
shows_source shelves suite source = list_any (is_of_source suite source) (entries shelves)

-- why there is no copy between two suites: one is missing, or they are the same
abbrev pub suites_fault : Option ℕ → Option ℕ → Option Fault
suites_fault (Some from) (Some to) = if nat_eq from to then Some SameSuite else None
suites_fault _ _ = Some UnknownSuite

-- why there is no copy from a suite: it shows no item of the source package
abbrev pub source_fault : ShelvesValue → Option ℕ → List ℕ → Option Fault
source_fault shelves (Some from) source = if shows_source shelves from source then None else Some NothingToCopy
source_fault shelves None source = None

-- Why a copy is refused, by the lowest fault that applies: the moment is too late, no suite has a codename, both are
-- one suite, the first shows no item of the source package.
unfoldable pub copy_fault : Book → List ℕ → List ℕ → List ℕ → ℕ → Option Fault
copy_fault book from to source moment =
    if nat_lt latest moment then Some Moment
    else or_else (suites_fault (suite_named book.config from) (suite_named book.config to))
    (source_fault book.shown (suite_named book.config from) source)

-- the positions of two different suites, by their codenames
pub record AreSuites (config : ConfigValue) (from to : List ℕ) (first second : ℕ) : Type 0 where
  pub from_named : suite_named config from ≡ Some first
  pub to_named : suite_named config to ≡ Some second
  pub other : nat_eq first second ≡ false

-- The plan is that of a copy of what there is of the source package.
pub record IsCopy (config : ConfigValue) (shelves : ShelvesValue) (from to : ℕ) (source : List ℕ) (plan : Plan) : Type 0 where
  pub shows : shows_source shelves from source ≡ true
  pub sound : AreSound shelves
  pub step : IsStep shelves (after_copy config shelves from to source) plan
