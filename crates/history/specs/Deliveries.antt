-- Which deliveries are refused, whatever the archive holds.
use Rattle.std.specs.Prelude.{ℕ, Bool, IsTrue, ⊤, not, ◌||◌, nat_lt, if◌then◌else◌, List, length, Option, Some, None, Result, Ok, Err}
use Rattle.book.specs.Book.{latest}
use Rattle.book.specs.declared.fault.KeepFault.{KeepFault}
use Rattle.book.specs.declared.fault.KeepFault.TheVariants as keep_faults
use Rattle.records.specs.Records.{changes_within}
use Rattle.records.specs.Values.{ChangesValue}
use Rattle.records.specs.declared.fault.RecordFault.{RecordFault}
use Rattle.rules.specs.Sizes.{largest}
use Rattle.rules.specs.Values.{ConfigValue}
use Rattle.suites.specs.Upload.{has_text}
use Rattle.history.specs.declared.fault.Fault.{Fault}
use Rattle.history.specs.declared.fault.Fault.TheVariants.{OutOfMemory, BadName, TooLarge, Record, Keeper, Moment}
use Rattle.sums.specs.FileNames.{is_changes_name, is_file_name}
use Rattle.sums.specs.Lines.{most_size}

-- The largest body that may be delivered under the name. The limit of a .changes, a .dsc and a .control, which are read whole, is the
-- same in each archive.
unfoldable pub most_named : ConfigValue → List ℕ → ℕ
most_named config name = if has_text name || is_changes_name name then most_size else largest config

abbrev pub fault_of_read : Result ChangesValue RecordFault → Option Fault
fault_of_read (Ok changes) = None
fault_of_read (Err fault) = Some (Record fault)

-- the fault of the body of a .changes, if it can not be read as one that lists no file above the limit
unfoldable pub record_fault : ConfigValue → List ℕ → List ℕ → Option Fault
record_fault config name body = if is_changes_name name then fault_of_read (changes_within (largest config) body) else None

abbrev pub or_else : Option Fault → Option Fault → Option Fault
or_else None other = other
or_else (Some fault) other = Some fault

-- Why a delivery is refused by the configuration, its name, its body and its moment alone, by the lowest fault that applies: the name
-- is no file name, the body is too large, the body of a .changes can not be read as one, the moment is too late.
unfoldable pub delivery_fault : ConfigValue → List ℕ → List ℕ → ℕ → Option Fault
delivery_fault config name body moment =
    if not (is_file_name name) then Some BadName
    else (if nat_lt (most_named config name) (length body) then Some TooLarge
    else or_else (record_fault config name body) (if nat_lt latest moment then Some Moment else None))

-- a fault of the disk or of size
abbrev pub IsOfDisk : KeepFault → Type 0
IsOfDisk keep_faults.Disk = ⊤
IsOfDisk keep_faults.Size = ⊤
IsOfDisk fault = ⊥

-- The refusal is the keeper's own. It is want of memory; or it is a disk or size that failed, if the keeper can have such a
-- fault and the call is free of any other refusal.
abbrev pub IsKeepers : Bool → (free : Type 0) → Fault → Type 0
IsKeepers may_fail free OutOfMemory = ⊤
IsKeepers may_fail free (Keeper fault) = IsTrue may_fail × IsOfDisk fault × free
IsKeepers may_fail free fault = ⊥
