-- What one more call makes of the book of a history.
use Rattle.std.specs.Prelude.{◌≡◌, ℕ, List, [], ◌∷◌, ◌++◌, Result, Ok, Err}
use Rattle.std.specs.List.{flat_map, fold}
use Rattle.std.proofs.Common.{append-nil, ap, ◌∙◌}
use Rattle.std.proofs.lemmas.Grind.{fold-append, flat_map-append}
use Rattle.book.specs.Book.{Book, at_moment, span, with_delivery}
use Rattle.book.specs.declared.arrival.Arrival.{Arrival}
use Rattle.history.specs.Before.{before_each, before_each-push}
use Rattle.history.specs.Histories.{Call, Delivery, QueueRun, Copying, Lookup, WaitingList, Cleaning, Removing, Promoting, VerdictList, Reply, Turn, History, arrived, arrivals_after, followed}
use Rattle.history.specs.Archives.{acted, acts_of, all_acts, archive, archive_of, book_from, book_of}
use Rattle.history.specs.declared.fault.Fault.{Fault}

-- a call and its outcome as a step
abbrev pub step_of : Call → Result Reply Fault → Turn
step_of call outcome = record { call = call; outcome = outcome }

pub arrived-push : (opening : Book) (steps : List Turn) (call : Call) (outcome : Result Reply Fault)
    → arrived opening (steps ++ step_of call outcome ∷ []) ≡ arrivals_after (span opening.config) (arrived opening steps) call outcome
unfolding arrived
arrived-push opening steps call outcome =
    fold-append (λ (now : List Arrival) (s : Turn). arrivals_after (span opening.config) now s.call s.outcome) opening.arrivals steps (step_of call outcome ∷ [])

pub all_acts-push : (opening : Book) (steps : List Turn) (call : Call) (outcome : Result Reply Fault)
    → all_acts opening (steps ++ step_of call outcome ∷ []) ≡ all_acts opening steps ++ acts_of opening steps call outcome
unfolding all_acts
all_acts-push opening steps call outcome =
    let f = λ (p : List Turn × Turn). acts_of opening p.0 p.1.call p.1.outcome in
    ap (flat_map f) (before_each-push steps (step_of call outcome)) ∙ flat_map-append f (before_each steps) ((steps, step_of call outcome) ∷ [])
    ∙ ap (λ acts. flat_map f (before_each steps) ++ acts) (append-nil (acts_of opening steps call outcome))

pub archive-push : (h : History) (call : Call) (outcome : Result Reply Fault)
    → archive (followed h call outcome) ≡ fold (acted h.opening.config) (archive h) (acts_of h.opening h.steps call outcome)
unfolding archive
archive-push h call outcome =
    ap (fold (acted h.opening.config) (archive_of h.opening)) (all_acts-push h.opening h.steps call outcome)
    ∙ fold-append (acted h.opening.config) (archive_of h.opening) (all_acts h.opening h.steps) (acts_of h.opening h.steps call outcome)

-- the book with one more call is that of the longer arrivals and the archive with what the call does
pub book_of-followed : (h : History) (call : Call) (outcome : Result Reply Fault)
    → book_of (followed h call outcome) ≡ book_from h.opening.config (arrivals_after (span h.opening.config) (arrived h.opening h.steps) call outcome)
    (fold (acted h.opening.config) (archive h) (acts_of h.opening h.steps call outcome))
unfolding book_of
book_of-followed h call outcome =
    ap (λ now. book_from h.opening.config now (archive (followed h call outcome))) (arrived-push h.opening h.steps call outcome)
    ∙ ap (book_from h.opening.config (arrivals_after (span h.opening.config) (arrived h.opening h.steps) call outcome)) (archive-push h call outcome)

-- a call that does nothing to the plain archive, and leaves what has arrived, leaves the book
pub book_of-idle : (h : History) (call : Call) (outcome : Result Reply Fault)
    → arrivals_after (span h.opening.config) (arrived h.opening h.steps) call outcome ≡ arrived h.opening h.steps → acts_of h.opening h.steps call outcome ≡ []
    → book_of (followed h call outcome) ≡ book_of h
unfolding book_of
book_of-idle h call outcome same none =
    book_of-followed h call outcome
    ∙ ap (λ now. book_from h.opening.config now (fold (acted h.opening.config) (archive h) (acts_of h.opening h.steps call outcome))) same
    ∙ ap (λ acts. book_from h.opening.config (arrived h.opening h.steps) (fold (acted h.opening.config) (archive h) acts)) none

-- a call that is refused changes nothing
pub book_of-refused : (h : History) (call : Call) (fault : Fault) → book_of (followed h call (Err fault)) ≡ book_of h
unfolding book_of arrivals_after acts_of
book_of-refused h (Delivery name body moment) fault = book_of-followed h (Delivery name body moment) (Err fault)
book_of-refused h (QueueRun moment) fault = book_of-followed h (QueueRun moment) (Err fault)
book_of-refused h (Copying from to source moment) fault = book_of-followed h (Copying from to source moment) (Err fault)
book_of-refused h (Lookup path) fault = book_of-followed h (Lookup path) (Err fault)
book_of-refused h (WaitingList moment) fault = book_of-followed h (WaitingList moment) (Err fault)
book_of-refused h (Cleaning moment) fault = book_of-followed h (Cleaning moment) (Err fault)
book_of-refused h (Removing suite name moment) fault = book_of-followed h (Removing suite name moment) (Err fault)
book_of-refused h (Promoting from to sources moment) fault = book_of-followed h (Promoting from to sources moment) (Err fault)
book_of-refused h VerdictList fault = book_of-followed h VerdictList (Err fault)

-- a delivery that is done adds its pair
pub book_of-delivered : (h : History) (name body : List ℕ) (moment : ℕ) (reply : Reply)
    → book_of (followed h (Delivery name body moment) (Ok reply)) ≡ with_delivery (book_of h) (record { name = name; body = body; moment = moment })
unfolding book_of book_from arrivals_after acts_of
book_of-delivered h name body moment reply = book_of-followed h (Delivery name body moment) (Ok reply)

-- a cleaning that is done leaves what counts at its moment
pub book_of-cleaned : (h : History) (moment : ℕ) (reply : Reply) → book_of (followed h (Cleaning moment) (Ok reply)) ≡ at_moment moment (book_of h)
unfolding book_of book_from arrivals_after acts_of at_moment
book_of-cleaned h moment reply = book_of-followed h (Cleaning moment) (Ok reply)

-- the look-ups change nothing
pub book_of-looked_up : (h : History) (path : List ℕ) (outcome : Result Reply Fault) → book_of (followed h (Lookup path) outcome) ≡ book_of h
unfolding book_of arrivals_after acts_of
book_of-looked_up h path outcome = book_of-followed h (Lookup path) outcome

pub book_of-waited : (h : History) (moment : ℕ) (outcome : Result Reply Fault) → book_of (followed h (WaitingList moment) outcome) ≡ book_of h
unfolding book_of arrivals_after acts_of
book_of-waited h moment outcome = book_of-followed h (WaitingList moment) outcome

pub book_of-listed : (h : History) (outcome : Result Reply Fault) → book_of (followed h VerdictList outcome) ≡ book_of h
unfolding book_of arrivals_after acts_of
book_of-listed h outcome = book_of-followed h VerdictList outcome
