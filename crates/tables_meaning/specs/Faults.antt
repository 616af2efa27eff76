-- Which fault of a keeper an error of the database is.
use Rattle.sqlite.specs.declared.error.Error.{Error}
use Rattle.sqlite.specs.declared.error.Error.TheVariants.{SqliteFailure}
use Rattle.sqlite.specs.declared.error.ErrorCode.TheVariants as code
use Rattle.book.specs.declared.fault.KeepFault.{KeepFault}
use Rattle.book.specs.declared.fault.KeepFault.TheVariants.{OutOfMemory, Disk, Size}

-- want of memory, a size that the database cannot hold, or in all other cases a failure of the disk
abbrev pub fault_for : Error → KeepFault
fault_for (SqliteFailure code.OutOfMemory) = OutOfMemory
fault_for (SqliteFailure code.TooBig) = Size
fault_for _ = Disk
