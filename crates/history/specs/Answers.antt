-- What the plain archive answers, and the theorem on a step and on a list of commands.
use Rattle.std.specs.Prelude.{◌≡◌, ℕ, nat_lt, nat_eq, Bool, true, false, IsTrue, not, ◌&&◌, ◌||◌, if◌then◌else◌, List, [], ◌∷◌, ◌++◌, map, filter, drop, length, decimal, codes, Option, Some, None, is_some, Result, Ok, Err, ⊤, bytes_eq, Contains}
use Rattle.std.specs.Option.{option_or, option_map_or}
use Rattle.std.specs.List.{list_any, fold}
use Rattle.std.specs.FinMap.{entries, get}
use Rattle.rules.specs.Values.{ConfigValue}
use Rattle.rules.specs.Verdicts.{number_of}
use Rattle.rules.specs.declared.verdict.Verdict.{Verdict}
use Rattle.rules.specs.declared.verdict.Verdict.TheVariants as verdict
use Rattle.suites.specs.Plan.{is_removed}
use Rattle.indices.specs.Indices.{index_text}
use Rattle.book.specs.Book.{Book, Candidate, ended, has_arrival, missing, latest, span}
use Rattle.book.specs.Keeping.{NoCollision, HasBodies}
use Rattle.book.specs.declared.arrival.Arrival.{Arrival}
use Rattle.book.specs.declared.change.Judgement.{Judgement}
use Rattle.book.specs.declared.change.Waiting.{Waiting}
use Rattle.history.specs.Archives.{PlainArchive, archive, acted, acts_of, pool_in, shown_in, shown_by_print, suite_named, is_shown_of, copied, sources_in, Stands}
use Rattle.history.specs.Deliveries.{IsOfDisk, delivery_fault}
use Rattle.history.specs.Histories.{Call, Delivery, QueueRun, Copying, Lookup, WaitingList, Cleaning, Removing, Promoting, VerdictList, Reply, Stored, Lines, Count, Found, Copies, History, arrived, counting, waiting_after, bodies_of, calls_of, followed}
use Rattle.history.specs.declared.fault.Fault.{Fault}
use Rattle.history.specs.declared.fault.Fault.TheVariants.{OutOfMemory, Keeper, Moment, UnknownSuite, SameSuite, NothingToCopy, NothingToRemove}

-- a report line: `accepted NAME` or `refused NUMBER NAME`
abbrev pub line_on : Verdict → List ℕ → List ℕ
line_on verdict.Accepted name = codes "accepted " ++ name
line_on v name = codes "refused " ++ decimal (number_of v) ++ codes " " ++ name

unfoldable pub report_line : Judgement → List ℕ
report_line j = line_on j.verdict j.name

-- the lines that a run after this history adds
unfoldable pub new_lines : History → ℕ → List (List ℕ)
new_lines h moment =
    let after = fold (acted h.opening.config) (archive h) (acts_of h.opening h.steps (QueueRun moment) (Ok (Lines []))) in
    map report_line (drop (length (archive h).judged) after.judged)

-- the line on an upload that waits: how many of its entries have no body that counts, and its name
abbrev pub line_on_missing : ℕ → List ℕ → List ℕ
line_on_missing count name = decimal count ++ codes " " ++ name

abbrev pub line_on_waiting : Waiting → List ℕ
line_on_waiting w = line_on_missing (length w.lacks) w.name

unfoldable pub waiting_line : List Arrival → Candidate → List ℕ
waiting_line arrivals c = line_on_missing (length (missing arrivals c)) c.name

-- the file of the pool or the index text at a path
unfoldable pub found_at : History → List ℕ → Option (List ℕ)
found_at h path =
    let a = archive h in
    option_or (get (pool_in a) path) (index_text h.opening.config (shown_by_print a) a.dates path)

-- the fault if there is one, else whether the delivery is new
abbrev pub delivery_answer : Option Fault → Bool → Result Reply Fault
delivery_answer None new = Ok (Stored new)
delivery_answer (Some fault) new = Err fault

abbrev pub unless_late : ℕ → Result Reply Fault → Result Reply Fault
unless_late moment answer = if nat_lt latest moment then Err Moment else answer

-- the number of items of the suite that the second shows and the first does not, by shelf and the text of the version
unfoldable pub count_of_new : ℕ → PlainArchive → PlainArchive → ℕ
count_of_new suite old new = length (filter
    (λ e. nat_eq e.0.suite suite && not (option_map_or (λ x. bytes_eq x.version e.1.version) (get (shown_in old) e.0) false))
    (entries (shown_in new)))

-- the answer to a copy between two suites that are there: a fault if they are one suite or the first shows no item of the source,
-- else how many items of the second are new
abbrev pub copy_between : ConfigValue → PlainArchive → ℕ → ℕ → List ℕ → ℕ → Result Reply Fault
copy_between config a from to source moment =
    if nat_eq from to then Err SameSuite
    else (if list_any (is_shown_of from source) (entries (shown_in a))
    then Ok (Count (count_of_new to a (copied config moment a from to source)))
    else Err NothingToCopy)

abbrev pub copy_answer : ConfigValue → PlainArchive → Option ℕ → Option ℕ → List ℕ → ℕ → Result Reply Fault
copy_answer config a (Some from) (Some to) source moment = copy_between config a from to source moment
copy_answer config a _ _ source moment = Err UnknownSuite

-- how many items of the second are new after a copy of a source package, if the first shows an item of it
abbrev pub new_items : ConfigValue → ℕ → ℕ → ℕ → PlainArchive → List ℕ → Option ℕ
new_items config moment from to a source =
    if list_any (is_shown_of from source) (entries (shown_in a))
    then Some (count_of_new to a (copied config moment a from to source)) else None

-- the answers of copies of source packages in a row, each made from what those before it leave
abbrev pub copies_in : ConfigValue → ℕ → ℕ → ℕ → PlainArchive → List (List ℕ) → List (List ℕ × Option ℕ)
copies_in config moment from to a [] = []
copies_in config moment from to a (source ∷ sources) =
    (source, new_items config moment from to a source)
    ∷ copies_in config moment from to (copied config moment a from to source) sources

-- a line on such a copy: how many items are new, and the name of the source package; or that it is refused
abbrev pub line_on_copy : Option ℕ → List ℕ → List ℕ
line_on_copy (Some items) source = decimal items ++ codes " " ++ source
line_on_copy None source = codes "refused Q8 " ++ source

abbrev pub copy_line : List ℕ × Option ℕ → List ℕ
copy_line copy = line_on_copy copy.1 copy.0

-- the answer to a promotion: a fault if a suite is missing or both are one suite, else the answers of the copies of the source
-- packages
abbrev pub promotion_answer : ConfigValue → PlainArchive → Option ℕ → Option ℕ → Option (List (List ℕ)) → ℕ → Result Reply Fault
promotion_answer config a (Some from) (Some to) sources moment =
    if nat_eq from to then Err SameSuite
    else Ok (Copies (copies_in config moment from to a (sources_in a from sources)))
promotion_answer config a _ _ sources moment = Err UnknownSuite

-- the number of items of the package that the suite shows
unfoldable pub count_of_shown : ℕ → List ℕ → PlainArchive → ℕ
count_of_shown suite name a = length (filter (is_removed suite name) (entries (shown_in a)))

-- the answer to a removal: a fault if the suite is missing or shows no item of the package, else how many items of the package it
-- shows
abbrev pub removal_answer : PlainArchive → Option ℕ → List ℕ → Result Reply Fault
removal_answer a None name = Err UnknownSuite
removal_answer a (Some suite) name =
    if list_any (is_removed suite name) (entries (shown_in a)) then Ok (Count (count_of_shown suite name a)) else Err NothingToRemove

-- what the plain archive of the history answers to the call
unfoldable pub answer : History → Call → Result Reply Fault
answer h (Delivery name body moment) = delivery_answer (delivery_fault h.opening.config name body moment)
    (not (has_arrival (counting h.opening h.steps moment) (record { name = name; body = body; moment = moment })))
answer h (QueueRun moment) = unless_late moment (Ok (Lines (new_lines h moment)))
answer h (Copying from to source moment) = unless_late moment
    (copy_answer h.opening.config (archive h) (suite_named h.opening.config from) (suite_named h.opening.config to) source moment)
answer h (Lookup path) = Ok (Found (found_at h path))
answer h (WaitingList moment) = unless_late moment
    (Ok (Lines (map (waiting_line (counting h.opening h.steps moment)) (waiting_after h.opening h.steps moment))))
answer h (Cleaning moment) = unless_late moment
    (Ok (Count (length (ended (span h.opening.config) moment (arrived h.opening h.steps)))))
answer h (Removing suite name moment) = unless_late moment (removal_answer (archive h) (suite_named h.opening.config suite) name)
answer h (Promoting from to sources moment) = unless_late moment
    (promotion_answer h.opening.config (archive h) (suite_named h.opening.config from) (suite_named h.opening.config to) sources moment)
answer h VerdictList = Ok (Lines (map report_line (archive h).judged))

-- one suite is missing, or both are one suite
abbrev pub are_no_two : Option ℕ → Option ℕ → Bool
are_no_two (Some from) (Some to) = nat_eq from to
are_no_two _ _ = true

-- neither the moment nor the suites refuse a copy or a promotion: both suites are in the configuration, and they differ
unfoldable pub is_free_copy : ConfigValue → List ℕ → List ℕ → ℕ → Bool
is_free_copy config from to moment =
    not (nat_lt latest moment) && not (are_no_two (suite_named config from) (suite_named config to))

-- neither the moment nor the suite refuses a removal: the suite is in the configuration
unfoldable pub is_free_removal : ConfigValue → List ℕ → ℕ → Bool
is_free_removal config suite moment = not (nat_lt latest moment) && is_some (suite_named config suite)

-- whether a call is refused by its arguments and the configuration alone
unfoldable pub is_refused : History → Call → Bool
is_refused h (Delivery name body moment) = is_some (delivery_fault h.opening.config name body moment)
is_refused h (QueueRun moment) = nat_lt latest moment
is_refused h (Copying from to source moment) =
    nat_lt latest moment || are_no_two (suite_named h.opening.config from) (suite_named h.opening.config to)
is_refused h (WaitingList moment) = nat_lt latest moment
is_refused h (Cleaning moment) = nat_lt latest moment
is_refused h (Removing suite name moment) = nat_lt latest moment || not (is_some (suite_named h.opening.config suite))
is_refused h (Promoting from to sources moment) =
    nat_lt latest moment || are_no_two (suite_named h.opening.config from) (suite_named h.opening.config to)
is_refused h call = false

-- The outcome is the answer. In its place there may be want of memory. There may also be a fault of the keeper, if the keeper can
-- have one and the call is not refused anyhow.
abbrev pub IsAnswer : Bool → History → Call → Result Reply Fault → Type 0
IsAnswer may_fail h call (Err OutOfMemory) = ⊤
IsAnswer may_fail h call (Err (Keeper fault)) = IsTrue may_fail × IsOfDisk fault × (is_refused h call ≡ false)
IsAnswer may_fail h call outcome = outcome ≡ answer h call

-- A keeper keeps what a history leaves: it has the configuration of the history, and while it is open its book is the one
-- that the history leaves.
pub record IsKept (is_open : Type 0) (book : Book) (h : History) : Type 0 where
  pub config : book.config ≡ h.opening.config
  pub stands : is_open → Stands book h

-- The outcome is the answer after the history, and what the history followed by this call leaves is then kept.
pub record IsStep (may_fail : Bool) (h : History) (call : Call) (outcome : Result Reply Fault) (is_open : Type 0) (after : Book) : Type 0 where
  pub answered : IsAnswer may_fail h call outcome
  pub kept : IsKept is_open after (followed h call outcome)

-- one outcome a call, each the answer at its place; what the longer history leaves is then kept
abbrev pub IsRun : Bool → History → List Call → List (Result Reply Fault) → (is_open : Type 0) → (after : Book) → Type 0
IsRun may_fail h [] [] is_open after = IsKept is_open after h
IsRun may_fail h (call ∷ calls) (outcome ∷ outcomes) is_open after =
    IsAnswer may_fail h call outcome × IsRun may_fail (followed h call outcome) calls outcomes is_open after
IsRun may_fail h [] (outcome ∷ outcomes) is_open after = ⊥
IsRun may_fail h (call ∷ calls) [] is_open after = ⊥

-- A history may open with this book: its bodies are among these, and it is the book of its own plain archive.
pub record IsOpening (bodies : List (List ℕ)) (book : Book) : Type 0 where
  pub known : HasBodies bodies book
  pub whole : Stands book (record { opening = book; steps = [] })

-- The history opens with the book that it leaves without calls. No two bodies of the opening, of the history and of these calls
-- have one print.
pub record IsFaithful (h : History) (calls : List Call) : Type 0 where
  pub bodies : List (List ℕ)
  pub apart : NoCollision bodies
  pub opened : IsOpening bodies h.opening
  pub delivered : (body : List ℕ) → Contains (bodies_of (calls_of h.steps ++ calls)) body → Contains bodies body
