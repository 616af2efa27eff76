-- Why a keeper refuses: each fault's number and its text.
use Rattle.std.specs.Prelude.{ℕ, List, ◌++◌, codes, decimal}
use Rattle.book.specs.declared.fault.KeepFault.{KeepFault}
use Rattle.book.specs.declared.fault.KeepFault.TheVariants.{OutOfMemory, Disk, Size, NoArchive, Configuration}

-- the number of a fault
abbrev pub fault_number : KeepFault → ℕ
fault_number OutOfMemory = 1
fault_number Disk = 2
fault_number Size = 3
fault_number NoArchive = 4
fault_number Configuration = 5

-- a fault's text: the letter K and its number
abbrev pub fault_text : KeepFault → List ℕ
fault_text fault = codes "K" ++ decimal (fault_number fault)
