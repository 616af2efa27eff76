-- Histories of calls and their outcomes: what has arrived, what of it counts, and which uploads are complete.
use Rattle.std.specs.Prelude.{ℕ, Bool, false, ◌&&◌, ◌||◌, not, List, [], ◌∷◌, ◌++◌, map, filter, bytes_eq, Option, Result, Ok}
use Rattle.std.specs.List.{list_any, flat_map, fold}
use Rattle.book.specs.Book.{Book, Candidate, candidates, current, in_order, is_complete, is_judged, span, with_arrival}
use Rattle.book.specs.declared.arrival.Arrival.{Arrival}
use Rattle.history.specs.Before.{before_each}
use Rattle.history.specs.declared.fault.Fault.{Fault}

-- A call of the archive, with its arguments; suites are named by their codenames. A promotion is of the source packages that are
-- named, or else of all that the first suite shows.
pub data Call : Type 0 where
  Delivery : (name : List ℕ) (body : List ℕ) (moment : ℕ) → Call
  QueueRun : (moment : ℕ) → Call
  Copying : (from : List ℕ) (to : List ℕ) (source : List ℕ) (moment : ℕ) → Call
  Lookup : (path : List ℕ) → Call
  WaitingList : (moment : ℕ) → Call
  Cleaning : (moment : ℕ) → Call
  Removing : (suite : List ℕ) (name : List ℕ) (moment : ℕ) → Call
  Promoting : (from : List ℕ) (to : List ℕ) (sources : Option (List (List ℕ))) (moment : ℕ) → Call
  VerdictList : Call

-- what a call answers that is not refused
pub data Reply : Type 0 where
  Stored : (new : Bool) → Reply
  Lines : (lines : List (List ℕ)) → Reply
  Count : (items : ℕ) → Reply
  Found : (file : Option (List ℕ)) → Reply
  Copies : (copies : List (List ℕ × Option ℕ)) → Reply

-- A call and its outcome. The call is done if the outcome is no refusal.
pub record Turn : Type 0 where
  pub call : Call
  pub outcome : Result Reply Fault

-- A history opens with a book, usually that of an archive in which nothing is yet, and goes on with calls.
pub record History : Type 0 where
  pub opening : Book
  pub steps : List Turn

-- The arrivals after a call with this outcome, if each counts for this number of seconds (for good if there is no number). A
-- delivery that was done adds its pair. A cleaning that was done leaves what counts at its moment.
unfoldable pub arrivals_after : Option ℕ → List Arrival → Call → Result Reply Fault → List Arrival
arrivals_after seconds arrivals (Delivery name body moment) (Ok reply) =
    with_arrival arrivals (record { name = name; body = body; moment = moment })
arrivals_after seconds arrivals (Cleaning moment) (Ok reply) = current seconds moment arrivals
arrivals_after seconds arrivals call outcome = arrivals

-- the pairs of the opening and of deliveries that were done, without those that cleanings took
unfoldable pub arrived : Book → List Turn → List Arrival
arrived opening steps =
    fold (λ arrivals step. arrivals_after (span opening.config) arrivals step.call step.outcome) opening.arrivals steps

-- what has arrived and counts at a moment
unfoldable pub counting : Book → List Turn → ℕ → List Arrival
counting opening steps moment = current (span opening.config) moment (arrived opening steps)

-- the .changes has arrived
unfoldable pub has_come : List Arrival → Candidate → Bool
has_come arrivals c = list_any (λ d. bytes_eq d.name c.name && bytes_eq d.body c.body) (candidates arrivals)

-- The call is a run that was done, and at its own moment the .changes and each listed file counted.
unfoldable pub completes : Book → List Turn → Candidate → Call → Result Reply Fault → Bool
completes opening before c (QueueRun moment) (Ok reply) =
    has_come (counting opening before moment) c && is_complete (counting opening before moment) c
completes opening before c call outcome = false

-- The upload has a verdict in the opening, or was complete at a run among these calls that was done.
unfoldable pub was_judged : Book → List Turn → Candidate → Bool
was_judged opening steps c =
    is_judged opening.judged c || list_any (λ p. completes opening p.0 c p.1.call p.1.outcome) (before_each steps)

-- the uploads that count at a moment and that no run among these calls has judged, in the order of judging
unfoldable pub waiting_after : Book → List Turn → ℕ → List Candidate
waiting_after opening steps moment =
    in_order (filter (λ c. not (was_judged opening steps c)) (candidates (counting opening steps moment)))

-- what a run after these calls judges at its moment: what is complete, and was so at no earlier run
abbrev pub due_after : Book → List Turn → ℕ → List Candidate
due_after opening steps moment = filter (is_complete (counting opening steps moment)) (waiting_after opening steps moment)

-- the bodies of the deliveries among these calls, done or not
unfoldable pub bodies_of_call : Call → List (List ℕ)
bodies_of_call (Delivery name body moment) = body ∷ []
bodies_of_call call = []

abbrev pub bodies_of : List Call → List (List ℕ)
bodies_of calls = flat_map bodies_of_call calls

abbrev pub calls_of : List Turn → List Call
calls_of steps = map (λ step. step.call) steps

-- the history without calls that opens with this book
abbrev pub opened_with : Book → History
opened_with book = record { opening = book; steps = [] }

-- the history with one more call
abbrev pub followed : History → Call → Result Reply Fault → History
followed h call outcome = record h { steps = h.steps ++ record { call = call; outcome = outcome } ∷ [] }
