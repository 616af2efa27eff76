-- What definitions see of commands and of what they answer.
use Rattle.std.specs.Prelude.{◌≡◌, ℕ, Bool, true, false, List, map, Option, Result, Ok, Err, String, string_bytes}
use Rattle.std.specs.Option.{option_map}
use Rattle.std.specs.declared.vec.Vec.{Vec}
use Rattle.std.specs.declared.alloc.Global.{Global}
pub use Rattle.history.specs.Reports.{copy_of, lines_of}
use Rattle.history.specs.Histories.{Call, Delivery, QueueRun, Copying, Lookup, WaitingList, Cleaning, Removing, Promoting, VerdictList, Reply, Stored, Lines, Count, Found, Copies}
use Rattle.history.specs.declared.fault.Fault.{Fault}
use Rattle.history.specs.declared.command.Arrived.{Arrived}
use Rattle.history.specs.declared.command.Arrived.TheVariants.{New, Again}
use Rattle.history.specs.declared.command.Promotion.{Promotion}
use Rattle.history.specs.declared.command.Report.{Report}
use Rattle.history.specs.declared.command.Command.{Command}
use Rattle.history.specs.declared.command.Command.TheVariants as command
use Rattle.history.specs.declared.command.Outcome.{Outcome}
use Rattle.history.specs.declared.command.Outcome.TheVariants as outcome

abbrev pub is_new : Arrived → Bool
is_new New = true
is_new Again = false

-- the source packages that are named, if any are
abbrev pub names_given : Option (Vec (String Global) Global) → Option (List (List ℕ))
names_given sources = option_map (λ names. map string_bytes names.items) sources

abbrev pub copies_of : Promotion → List (List ℕ × Option ℕ)
copies_of promotion = map copy_of promotion.copies.items

-- what a call answered, without where it lies in memory
abbrev pub stored : Result Arrived Fault → Result Reply Fault
stored (Ok arrived) = Ok (Stored (is_new arrived))
stored (Err fault) = Err fault

abbrev pub reported : Result Report Fault → Result Reply Fault
reported (Ok report) = Ok (Lines (lines_of report))
reported (Err fault) = Err fault

abbrev pub counted : Result ℕ Fault → Result Reply Fault
counted (Ok items) = Ok (Count items)
counted (Err fault) = Err fault

abbrev pub promoted : Result Promotion Fault → Result Reply Fault
promoted (Ok promotion) = Ok (Copies (copies_of promotion))
promoted (Err fault) = Err fault

abbrev pub found : Result (Option (Vec ℕ Global)) Fault → Result Reply Fault
found (Ok file) = Ok (Found (option_map (λ body. body.items) file))
found (Err fault) = Err fault

abbrev pub call_of : Command → Call
call_of (command.Deliver name body moment) = Delivery (string_bytes name) body.items moment
call_of (command.Run moment) = QueueRun moment
call_of (command.Copy from to source moment) = Copying (string_bytes from) (string_bytes to) (string_bytes source) moment
call_of (command.Fetch path) = Lookup (string_bytes path)
call_of (command.Waiting moment) = WaitingList moment
call_of (command.Clean moment) = Cleaning moment
call_of (command.Remove suite name moment) = Removing (string_bytes suite) (string_bytes name) moment
call_of (command.Promote from to sources moment) = Promoting (string_bytes from) (string_bytes to) (names_given sources) moment
call_of command.Verdicts = VerdictList

abbrev pub outcome_of : Outcome → Result Reply Fault
outcome_of (outcome.Deliver result) = stored result
outcome_of (outcome.Run result) = reported result
outcome_of (outcome.Copy result) = counted result
outcome_of (outcome.Fetch result) = found result
outcome_of (outcome.Waiting result) = reported result
outcome_of (outcome.Clean result) = counted result
outcome_of (outcome.Remove result) = counted result
outcome_of (outcome.Promote result) = promoted result
outcome_of (outcome.Verdicts result) = reported result

-- which call it is
pub data Kind : Type 0 where
  Delivering : Kind
  Running : Kind
  CopyingSource : Kind
  Fetching : Kind
  ListingWaiting : Kind
  CleaningUp : Kind
  RemovingPackage : Kind
  PromotingSources : Kind
  ListingVerdicts : Kind

abbrev pub kind_of_command : Command → Kind
kind_of_command (command.Deliver name body moment) = Delivering
kind_of_command (command.Run moment) = Running
kind_of_command (command.Copy from to source moment) = CopyingSource
kind_of_command (command.Fetch path) = Fetching
kind_of_command (command.Waiting moment) = ListingWaiting
kind_of_command (command.Clean moment) = CleaningUp
kind_of_command (command.Remove suite name moment) = RemovingPackage
kind_of_command (command.Promote from to sources moment) = PromotingSources
kind_of_command command.Verdicts = ListingVerdicts

abbrev pub kind_of_outcome : Outcome → Kind
kind_of_outcome (outcome.Deliver result) = Delivering
kind_of_outcome (outcome.Run result) = Running
kind_of_outcome (outcome.Copy result) = CopyingSource
kind_of_outcome (outcome.Fetch result) = Fetching
kind_of_outcome (outcome.Waiting result) = ListingWaiting
kind_of_outcome (outcome.Clean result) = CleaningUp
kind_of_outcome (outcome.Remove result) = RemovingPackage
kind_of_outcome (outcome.Promote result) = PromotingSources
kind_of_outcome (outcome.Verdicts result) = ListingVerdicts

-- as many outcomes as commands, each of the kind of the command at its place
abbrev pub AreOfKinds : List Command → Vec Outcome Global → Type 0
AreOfKinds commands outcomes = map kind_of_outcome outcomes.items ≡ map kind_of_command commands
