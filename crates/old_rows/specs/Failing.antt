-- Which errors are not errors of the query itself.
use Rattle.std.specs.Prelude.{Bool, true, false}
use Rattle.sqlite.specs.declared.error.ErrorCode.{ErrorCode}
use Rattle.sqlite.specs.declared.error.ErrorCode.TheVariants.{OutOfMemory, SystemIoFailure, DatabaseCorrupt, DiskFull, Closed, TooBig, OperationInterrupted}
use Rattle.sqlite.specs.declared.error.Error.{Error}
use Rattle.sqlite.specs.declared.error.Error.TheVariants.{SqliteFailure}

-- the code is one of memory, of the disk, of a size, or of a limit on steps
abbrev pub is_fault_code : ErrorCode → Bool
is_fault_code OutOfMemory = true
is_fault_code SystemIoFailure = true
is_fault_code DatabaseCorrupt = true
is_fault_code DiskFull = true
is_fault_code Closed = true
is_fault_code TooBig = true
is_fault_code OperationInterrupted = true
is_fault_code _ = false

-- the error is one of memory, of the disk, of a size, or of a limit on steps
abbrev pub is_fault : Error → Bool
is_fault (SqliteFailure code) = is_fault_code code
is_fault _ = false
