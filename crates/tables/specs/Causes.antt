-- What causes an error.
use Rattle.std.specs.Prelude.{◌≡◌, ◌⊎◌, false, IsSome}
use Rattle.sqlite_disk.specs.Disk.{MoreFaults}
use Rattle.sqlite.specs.declared.error.Error.{Error}
use Rattle.sqlite.specs.declared.error.Error.TheVariants.{SqliteFailure}
use Rattle.sqlite.specs.declared.error.ErrorCode.TheVariants.{OutOfMemory}
use Rattle.sqlite.specs.State.{State}

module _ (old new : State) where
  -- the store failed meanwhile, the connection was shut before, or the steps of its statements have a limit
  abbrev pub MayFail : Type 0
  MayFail = MoreFaults old.faults new.faults ⊎ ((old.is_open ≡ false) ⊎ IsSome old.step_limit)

  -- memory is wanting, or the connection may fail
  abbrev pub IsCaused : Error → Type 0
  IsCaused e = (e ≡ SqliteFailure OutOfMemory) ⊎ MayFail
