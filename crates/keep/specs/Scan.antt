-- The words of the plain keeper's functions.
use Rattle.std.specs.Prelude.{◌≡◌, ℕ, Bool, ◌&&◌, not, if◌then◌else◌, List, find, filter, bytes_eq, Option, Some, None}
use Rattle.std.specs.List.{list_any}
use Rattle.std.specs.Option.{option_and_then, option_map, option_or}
use Rattle.std.specs.Borrow.{Bor}
use Rattle.std.specs.FinMap.{find as find_tied}
use Rattle.sums.specs.Prints.{print as print_of, same_print}
use Rattle.sums.specs.declared.entries.Entry.{Entry}
use Rattle.sums.specs.declared.print.Print.{Print}
use Rattle.suites.specs.Keys.{text_order}
use Rattle.book.specs.Book as book
use Rattle.book.specs.Book.{candidates, current, in_order, is_judged}
use Rattle.book.specs.declared.arrival.Arrival.{Arrival}
use Rattle.book.specs.declared.arrival.Counting.{Counting}
use Rattle.book.specs.declared.change.Judgement.{Judgement}
use Rattle.keep.specs.declared.pool.PoolBody.{PoolBody}
use Rattle.keep.specs.declared.candidate.Candidate as scan

-- the arrivals that count
abbrev pub counted : Counting → List Arrival → List Arrival
counted counting arrivals = current counting.span counting.moment arrivals

-- a .changes as the book has it
abbrev pub candidate_view : scan.Candidate → book.Candidate
candidate_view c = record { name = c.arrival.now.name; body = c.arrival.now.body; changes = c.changes }

-- one of the judgements is on the .changes of this name and body
abbrev pub has_judgement : List ℕ → List ℕ → List Judgement → Bool
has_judgement name body judged = list_any (λ j. bytes_eq j.name name && same_print j.print (print_of body)) judged

-- the uploads without a verdict among these arrivals, in the order of judging
abbrev pub unjudged_in : List Arrival → List Judgement → List book.Candidate
unjudged_in arrivals judged = in_order (filter (λ c. not (is_judged judged c)) (candidates arrivals))

-- the listed file that a reference leads to
abbrev pub entry_at : Bor Entry → Entry
entry_at e = e.now

-- the file is at this path
abbrev pub is_at : List ℕ → PoolBody → Bool
is_at path f = bytes_eq f.path path

-- the body that a list of files has at a path
unfoldable pub body_at : List PoolBody → List ℕ → Option (List ℕ)
body_at files path = option_and_then (λ f. f.body) (find (is_at path) files)

-- the body of a file of the pool: the old one if its print fits, else one that arrived
unfoldable pub stored_among : List Arrival → List PoolBody → List ℕ → Print → Option (List ℕ)
stored_among arrivals old path print =
    option_or (option_and_then (λ body. if same_print (print_of body) print then Some body else None) (body_at old path))
    (option_map (λ a. a.body) (find (λ a. same_print (print_of a.body) print) arrivals))

-- a file of the pool as it is kept
abbrev pub stored : List Arrival → List PoolBody → List ℕ → Print → PoolBody
stored arrivals old path print = record { path = path; body = stored_among arrivals old path print }

-- The list has a file at exactly the paths of these, each as the first of its path asks.
abbrev pub PoolHas : List Arrival → List PoolBody → List PoolBody → List (List ℕ × Print) → Type 0
PoolHas arrivals old bodies files = (path : List ℕ)
    → find (is_at path) bodies ≡ option_map (stored arrivals old path) (find_tied text_order path files)
