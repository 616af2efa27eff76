-- Why a text is not a configuration: each fault's number and its text.
use Rattle.std.specs.Prelude.{ℕ, List, [], ◌++◌, codes, decimal}
use Rattle.para.specs.Fault as paragraph
use Rattle.para.specs.declared.fault.ParaFault.{ParaFault}
use Rattle.para.specs.declared.fault.ParaFault.TheVariants as para_faults
use Rattle.rules.specs.declared.fault.ConfigFault.{ConfigFault}
use Rattle.rules.specs.declared.fault.ConfigFault.TheVariants.{OutOfMemory, Paragraph, Missing, BadValue, ClaimedTwice, BadRule, Limits}

-- the number of a fault; if several apply to a text, the answer is the one of lowest number
abbrev pub fault_number : ConfigFault → ℕ
fault_number OutOfMemory = 0
fault_number (Paragraph fault) = 1
fault_number Missing = 2
fault_number BadValue = 3
fault_number ClaimedTwice = 4
fault_number BadRule = 5
fault_number Limits = 6

-- after a space, the fault of the paragraphs
abbrev pub cause_text : ConfigFault → List ℕ
cause_text (Paragraph fault) = codes " " ++ paragraph.fault_text fault
cause_text _ = []

-- a fault's text: the letter F, its number and the cause
abbrev pub fault_text : ConfigFault → List ℕ
fault_text fault = codes "F" ++ decimal (fault_number fault) ++ cause_text fault

-- Want of memory in reading the paragraphs is want of memory in reading the configuration.
abbrev pub of_paragraph : ParaFault → ConfigFault
of_paragraph para_faults.OutOfMemory = OutOfMemory
of_paragraph fault = Paragraph fault
