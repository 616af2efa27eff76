-- What the parts of a change do inside its transaction.
use Rattle.std.specs.Prelude.{◌≡◌, true, List, All, is_some, IsTrue}
use Rattle.sqlite.specs.State.{State, KeepsCommit}
use Rattle.suites.specs.declared.item.PoolFile.{PoolFile}
use Rattle.book.specs.declared.change.Step.{Step}
use Rattle.tables.specs.Bodies.{body_with}
use Rattle.tables.specs.Rows.{Tables, Holds}

-- Whatever rows the tables held, they hold the changed ones now. What was committed stays, and the connection is as open
-- as it was.
pub record Makes (old new : State) (change : Tables → Tables) : Type 0 where
  pub held : (t : Tables) → Holds old.now t → Holds new.now (change t)
  pub kept : KeepsCommit old new
  pub mode : new.in_transaction ≡ true
  pub stays : IsTrue old.is_open → IsTrue new.is_open

-- a body of each of the files is there
abbrev pub HasBodies : Tables → List PoolFile → Type 0
HasBodies t files = All (λ f. IsTrue (is_some (body_with f.print t.bodies))) files

-- a body of each file that the steps add is there
abbrev pub HasAllBodies : Tables → List Step → Type 0
HasAllBodies t steps = All (λ step. HasBodies t step.plan.files_added) steps
