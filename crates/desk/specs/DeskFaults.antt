-- Why a connection was not answered in whole: each fault's number and its text.
use Rattle.std.specs.Prelude.{ℕ, List, ◌++◌, codes, decimal}
use Rattle.desk.specs.declared.exchange.DeskFault.{DeskFault}
use Rattle.desk.specs.declared.exchange.DeskFault.TheVariants.{ReaderFailed, WriterFailed, ArchiveFailed}

abbrev pub desk_fault_number : DeskFault → ℕ
desk_fault_number ReaderFailed = 1
desk_fault_number WriterFailed = 2
desk_fault_number ArchiveFailed = 3

-- a fault's text: the letter H and its number
abbrev pub desk_fault_text : DeskFault → List ℕ
desk_fault_text fault = codes "H" ++ decimal (desk_fault_number fault)
