-- What a query leaves of a transaction.
use Rattle.std.specs.Prelude.{true}
use Rattle.sqlite.specs.State.{State, Shows}

-- the transaction goes on, and what was committed stays
abbrev pub GoesOn : State → State → Type 0
GoesOn old new = Shows old new new.now old.committed true
