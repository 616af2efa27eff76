-- What a whole transaction does, as the connection shows it.
use Rattle.std.specs.Prelude.{◌≡◌, IsTrue}
use Rattle.sqlite.specs.Effect.{Database}
use Rattle.sqlite.specs.State.{State}
use Rattle.sqlite.specs.Tree.{Trees}
use Rattle.tables.specs.Rows.{Tables, Holds}

module _ (old new : State) where
  -- Whatever rows the tables held, they hold the changed ones now, and that is committed.
  pub record IsDone (change : Tables → Tables) : Type 0 where
    pub was_open : IsTrue old.is_open
    pub is_open : IsTrue new.is_open
    pub held : (t : Tables) → Holds old.now t → Holds new.committed (change t)

  -- What was committed stays, if the connection is still open.
  pub record IsUndone : Type 0 where
    pub was_open : IsTrue new.is_open → IsTrue old.is_open
    pub committed : IsTrue new.is_open → new.committed ≡ old.committed

-- the trees are those that the commit of the change writes
abbrev pub MayCommit : State → (Tables → Tables) → Trees → Type 0
MayCommit old change trees = (db : Database) × (trees ≡ db.trees) × IsTrue old.is_open × ((t : Tables) → Holds old.now t → Holds db (change t))
