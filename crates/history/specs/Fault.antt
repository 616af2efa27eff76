-- Why a call of the archive is refused: each fault's number and its text.
use Rattle.std.specs.Prelude.{ℕ, List, [], ◌++◌, codes, decimal}
use Rattle.records.specs.Fault as record_fault
use Rattle.book.specs.Fault as keeper_fault
use Rattle.records.specs.declared.fault.RecordFault.{RecordFault}
use Rattle.records.specs.declared.fault.RecordFault.TheVariants as record_faults
use Rattle.book.specs.declared.fault.KeepFault.{KeepFault}
use Rattle.book.specs.declared.fault.KeepFault.TheVariants as keep_faults
use Rattle.history.specs.declared.fault.Fault.{Fault}
use Rattle.history.specs.declared.fault.Fault.TheVariants.{OutOfMemory, BadName, TooLarge, Record, Keeper, Moment, UnknownSuite, SameSuite, NothingToCopy, Ended, ReaderFailed, NothingToRemove}

-- the number of a fault
abbrev pub fault_number : Fault → ℕ
fault_number OutOfMemory = 0
fault_number BadName = 1
fault_number TooLarge = 2
fault_number (Record fault) = 3
fault_number (Keeper fault) = 4
fault_number Moment = 5
fault_number UnknownSuite = 6
fault_number SameSuite = 7
fault_number NothingToCopy = 8
fault_number Ended = 9
fault_number ReaderFailed = 10
fault_number NothingToRemove = 11

-- after a space, the fault of the record or of the keeper
abbrev pub cause_text : Fault → List ℕ
cause_text (Record fault) = codes " " ++ record_fault.fault_text fault
cause_text (Keeper fault) = codes " " ++ keeper_fault.fault_text fault
cause_text _ = []

-- a fault's text: the letter Q, its number and the cause
abbrev pub fault_text : Fault → List ℕ
fault_text fault = codes "Q" ++ decimal (fault_number fault) ++ cause_text fault

-- a record's fault as the archive's: want of memory is the archive's own
abbrev pub of_record : RecordFault → Fault
of_record record_faults.OutOfMemory = OutOfMemory
of_record fault = Record fault

-- a keeper's fault as the archive's: want of memory is the archive's own
abbrev pub of_keeper : KeepFault → Fault
of_keeper keep_faults.OutOfMemory = OutOfMemory
of_keeper fault = Keeper fault
