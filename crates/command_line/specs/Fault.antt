-- Why a line asks for nothing: each fault's number and its text.
use Rattle.std.specs.Prelude.{ℕ, List, ◌++◌, codes, decimal}
use Rattle.command_line.specs.declared.parsed.LineFault.{LineFault}
use Rattle.command_line.specs.declared.parsed.LineFault.TheVariants.{OutOfMemory, Help, Refused}

-- the number of a fault
abbrev pub fault_number : LineFault → ℕ
fault_number OutOfMemory = 0
fault_number (Help error) = 1
fault_number (Refused error) = 2

-- a fault's text: the letter L and its number
abbrev pub fault_text : LineFault → List ℕ
fault_text fault = codes "L" ++ decimal (fault_number fault)
