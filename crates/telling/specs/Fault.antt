-- Why a question is refused, as a fault of the archive.
use Rattle.history.specs.Fault.{of_keeper}
use Rattle.history.specs.declared.fault.Fault as archive
use Rattle.history.specs.declared.fault.Fault.TheVariants as archive_faults
use Rattle.telling.specs.declared.fault.TellFault.{TellFault}
use Rattle.telling.specs.declared.fault.TellFault.TheVariants.{Keeper, Moment, UnknownSuite}

-- the fault of the archive that a refused question is: the keeper's is the archive's, and the others have the same names there
abbrev pub fault_told : TellFault → archive.Fault
fault_told (Keeper fault) = of_keeper fault
fault_told Moment = archive_faults.Moment
fault_told UnknownSuite = archive_faults.UnknownSuite
