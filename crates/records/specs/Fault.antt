-- Why a text is not a record: each fault's number and its text.
use Rattle.std.specs.Prelude.{ℕ, List, [], ◌++◌, codes, decimal}
use Rattle.para.specs.Fault as paragraph
use Rattle.vers.specs.Fault as version
use Rattle.sums.specs.Fault as lists
use Rattle.para.specs.declared.fault.ParaFault.{ParaFault}
use Rattle.para.specs.declared.fault.ParaFault.TheVariants as para_faults
use Rattle.vers.specs.declared.fault.VersionFault.{VersionFault}
use Rattle.vers.specs.declared.fault.VersionFault.TheVariants as version_faults
use Rattle.sums.specs.declared.fault.ListFault.{ListFault}
use Rattle.sums.specs.declared.fault.ListFault.TheVariants as list_faults
use Rattle.records.specs.FieldNames.{name_of}
use Rattle.records.specs.declared.fault.RecordFault.{RecordFault}
use Rattle.records.specs.declared.fault.RecordFault.TheVariants.{OutOfMemory, Paragraph, Missing, NotOneLine, Format, Name, Version, Architecture, Distribution, Lists, OwnField}

-- the number of a fault; if several apply to a text, the answer is the one of lowest number
abbrev pub fault_number : RecordFault → ℕ
fault_number OutOfMemory = 0
fault_number (Paragraph fault) = 1
fault_number (Missing name) = 2
fault_number NotOneLine = 3
fault_number Format = 4
fault_number Name = 5
fault_number (Version fault) = 6
fault_number Architecture = 7
fault_number Distribution = 8
fault_number (Lists fault) = 9
fault_number OwnField = 10

-- after a space, the fault of a part, or the name of the field that is missing
abbrev pub cause_text : RecordFault → List ℕ
cause_text (Paragraph fault) = codes " " ++ paragraph.fault_text fault
cause_text (Missing name) = codes " " ++ name_of name
cause_text (Version fault) = codes " " ++ version.fault_text fault
cause_text (Lists fault) = codes " " ++ lists.fault_text fault
cause_text _ = []

-- a fault's text: the letter C, its number and the cause
abbrev pub fault_text : RecordFault → List ℕ
fault_text fault = codes "C" ++ decimal (fault_number fault) ++ cause_text fault

-- Want of memory in reading a part is want of memory in reading the record.
abbrev pub of_paragraph : ParaFault → RecordFault
of_paragraph para_faults.OutOfMemory = OutOfMemory
of_paragraph fault = Paragraph fault

abbrev pub of_version : VersionFault → RecordFault
of_version version_faults.OutOfMemory = OutOfMemory
of_version fault = Version fault

abbrev pub of_lists : ListFault → RecordFault
of_lists list_faults.OutOfMemory = OutOfMemory
of_lists fault = Lists fault
