-- Which removals are refused, and the plan of one that is not.
use Rattle.std.specs.Prelude.{◌≡◌, ℕ, Bool, true, nat_lt, if◌then◌else◌, List, [], Option, Some, None}
use Rattle.std.specs.FinMap.{entries}
use Rattle.std.specs.List.{list_any}
use Rattle.book.specs.Book.{Book, latest}
use Rattle.suites.specs.Plan.{IsStep, after_removal, is_removed, removed}
use Rattle.suites.specs.Shelves.{AreSound, ShelvesValue}
use Rattle.suites.specs.declared.plan.Plan.{Plan}
use Rattle.history.specs.Archives.{suite_named}
use Rattle.history.specs.Deliveries.{or_else}
use Rattle.history.specs.declared.fault.Fault.{Fault}
use Rattle.history.specs.declared.fault.Fault.TheVariants.{Moment, UnknownSuite, NothingToRemove}

-- the suite shows an item of the package
unfoldable pub shows_package : ShelvesValue → ℕ → List ℕ → Bool
shows_package shelves suite name = list_any (is_removed suite name) (entries shelves)

-- why there is no removal from a suite: the suite is missing
abbrev pub suite_fault : Option ℕ → Option Fault
suite_fault (Some suite) = None
suite_fault None = Some UnknownSuite

-- why there is no removal from a suite: it shows no item of the package
abbrev pub package_fault : ShelvesValue → Option ℕ → List ℕ → Option Fault
package_fault shelves (Some suite) name = if shows_package shelves suite name then None else Some NothingToRemove
package_fault shelves None name = None

-- Why a removal is refused, by the lowest fault that applies: the moment is too late, no suite has the codename, the suite
-- shows no item of the package.
unfoldable pub removal_fault : Book → List ℕ → List ℕ → ℕ → Option Fault
removal_fault book suite name moment =
    if nat_lt latest moment then Some Moment
    else or_else (suite_fault (suite_named book.config suite)) (package_fault book.shown (suite_named book.config suite) name)

-- The plan is that of a removal of what there is of the package.
pub record IsRemoval (shelves : ShelvesValue) (suite : ℕ) (name : List ℕ) (plan : Plan) : Type 0 where
  pub shows : shows_package shelves suite name ≡ true
  pub sound : AreSound shelves
  pub step : IsStep shelves (after_removal shelves suite name) plan
  pub put : plan.put ≡ []
  pub dropped : plan.dropped ≡ removed shelves suite name
