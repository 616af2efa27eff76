-- What a keeper keeps, as contracts see it: the book.
use Rattle.std.specs.Prelude.{◌≡◌, ℕ, ◌+◌, ◌*◌, Bool, true, false, ◌&&◌, ◌||◌, not, nat_eq, nat_lt, if◌then◌else◌, List, [], ◌∷◌, ◌++◌, map, filter, find, length, replicate, bytes_eq, Option, Some, None, option_map, option_and_then, unwrap_or}
use Rattle.std.specs.Ordering.{ordering_then, nat_cmp, is_gt}
use Rattle.std.specs.declared.cmp.Ordering.{Ordering}
use Rattle.std.specs.List.{list_any, list_all, filter_map, fold, enumerate_from}
use Rattle.std.specs.Option.{option_or}
use Rattle.std.specs.Result.{result_ok}
use Rattle.std.specs.FinMap.{empty, get, values}
use Rattle.records.specs.Values.{ChangesValue}
use Rattle.records.specs.Records.{changes_in}
use Rattle.rules.specs.Values.{ConfigValue}
use Rattle.sums.specs.FileNames.{is_changes_name}
use Rattle.sums.specs.Prints.{print as print_of, same_print}
use Rattle.sums.specs.declared.entries.Entry.{Entry}
use Rattle.sums.specs.declared.print.Print.{Print}
use Rattle.suites.specs.Keys.{text_order}
use Rattle.suites.specs.Plan.{applied}
use Rattle.suites.specs.Pool.{AreAgreed, files_of}
use Rattle.suites.specs.Shelves.{ShelvesValue, pool}
use Rattle.suites.specs.Upload.{UploadValue, has_text}
use Rattle.suites.specs.declared.plan.Plan.{Plan}
pub use Rattle.indices.specs.Calendar.{latest}
use Rattle.indices.specs.Indices.{index_text}
use Rattle.book.specs.declared.arrival.Arrival.{Arrival}
use Rattle.book.specs.declared.arrived.ArrivedFile.{ArrivedFile}
use Rattle.book.specs.declared.change.Judgement.{Judgement}
use Rattle.book.specs.declared.change.Step.{Step}
use Rattle.book.specs.declared.change.Change.{Change}
use Rattle.book.specs.declared.change.Lack.{Lack}
use Rattle.book.specs.declared.change.Waiting.{Waiting}

-- The configuration; what has arrived, each pair of name and body once, in the order of its first delivery; the judged
-- uploads in order; what the suites show; the pool's bodies by path; for each suite, in the order of the configuration, the
-- moment at which what it shows last changed.
pub record Book : Type 0 where
  pub config : ConfigValue
  pub arrivals : List Arrival
  pub judged : List Judgement
  pub shown : ShelvesValue
  pub files : List ℕ → Option (List ℕ)
  pub dates : List ℕ

-- ---- arrivals

-- two arrivals have the same name and body
unfoldable pub is_same_pair : Arrival → Arrival → Bool
is_same_pair a b = bytes_eq a.name b.name && bytes_eq a.body b.body

unfoldable pub has_arrival : List Arrival → Arrival → Bool
has_arrival arrivals a = list_any (is_same_pair a) arrivals

-- the arrival has this name, and a body of this print
abbrev pub is_arrival_of : List ℕ → Print → Arrival → Bool
is_arrival_of name print a = bytes_eq a.name name && same_print (print_of a.body) print

-- an arrival without its bytes: its name, the print of its body, and its moment
abbrev pub arrived_file : Arrival → ArrivedFile
arrived_file a = record { name = a.name; print = print_of a.body; moment = a.moment }

-- what has arrived, without its bytes
abbrev pub arrived_in : Book → List ArrivedFile
arrived_in book = map arrived_file book.arrivals

-- the arrival with the greater of its moment and this one
abbrev pub at_latest : ℕ → Arrival → Arrival
at_latest moment a =
    record { name = a.name; body = a.body; moment = if nat_lt a.moment moment then moment else a.moment }

-- A pair that is there already counts once, with the greatest moment at which it was delivered.
unfoldable pub with_arrival : List Arrival → Arrival → List Arrival
with_arrival arrivals a =
    if has_arrival arrivals a then map (λ b. if is_same_pair a b then at_latest a.moment b else b) arrivals
    else arrivals ++ a ∷ []

-- the arrival of a body that is delivered under a file name at a moment
abbrev pub delivery : (name body : List ℕ) → ℕ → Arrival
delivery name body moment = record { name = name; body = body; moment = moment }

-- the book with what such a delivery brings
abbrev pub with_delivery : Book → Arrival → Book
with_delivery book a = record book { arrivals = with_arrival book.arrivals a }

-- ---- what counts at a moment

-- the seconds for which an arrival counts, or none if it counts for good
abbrev pub span : ConfigValue → Option ℕ
span config = option_map (λ days. days * 86400) config.keep_days

-- What was delivered at a moment counts at each moment that is less than the delivery's plus the span.
unfoldable pub counts_since : Option ℕ → (moment delivered : ℕ) → Bool
counts_since None moment delivered = true
counts_since (Some seconds) moment delivered = nat_lt moment (delivered + seconds)

-- the arrival counts at a moment
abbrev pub counts : Option ℕ → ℕ → Arrival → Bool
counts span moment a = counts_since span moment a.moment

-- the arrivals that count at a moment
unfoldable pub current : Option ℕ → ℕ → List Arrival → List Arrival
current span moment arrivals = filter (counts span moment) arrivals

-- the arrivals that do not count at a moment
unfoldable pub ended : Option ℕ → ℕ → List Arrival → List Arrival
ended span moment arrivals = filter (λ a. not (counts span moment a)) arrivals

-- The book with the arrivals that count at a moment, and no others: what a cleaning at that moment leaves.
unfoldable pub at_moment : ℕ → Book → Book
at_moment moment book = record book { arrivals = current (span book.config) moment book.arrivals }

-- whether an arrival of the name and body of this delivery counts at its moment
abbrev pub has_delivery : Book → Arrival → Bool
has_delivery book a = has_arrival (at_moment a.moment book).arrivals a

-- ---- uploads

-- a .changes that arrived, and the record that it is
pub record Candidate : Type 0 where
  pub name : List ℕ
  pub body : List ℕ
  pub changes : ChangesValue

unfoldable pub candidate_of : Arrival → Option Candidate
candidate_of a =
    if is_changes_name a.name
    then option_map (λ c. record { name = a.name; body = a.body; changes = c }) (result_ok (changes_in a.body))
    else None

abbrev pub candidates : List Arrival → List Candidate
candidates arrivals = filter_map candidate_of arrivals

-- the arrival is of the listed name, with a body of the listed print
unfoldable pub is_body_of : Entry → Arrival → Bool
is_body_of entry a = is_arrival_of entry.name entry.print a

unfoldable pub is_there : List Arrival → Entry → Bool
is_there arrivals entry = list_any (is_body_of entry) arrivals

-- the entries of which no body has arrived
unfoldable pub missing : List Arrival → Candidate → List Entry
missing arrivals c = filter (λ e. not (is_there arrivals e)) c.changes.entries

-- each listed file has arrived
unfoldable pub is_complete : List Arrival → Candidate → Bool
is_complete arrivals c = list_all (is_there arrivals) c.changes.entries

-- the upload has a verdict
unfoldable pub is_judged : List Judgement → Candidate → Bool
is_judged judged c = list_any (λ j. bytes_eq j.name c.name && same_print j.print (print_of c.body)) judged

-- The order of judging, of uploads by the name and the print of their .changes: by the bytes of the names, then by SHA-256, SHA-1,
-- MD5 and size.
unfoldable pub judging_order : List ℕ × Print → List ℕ × Print → Ordering
judging_order a b =
    ordering_then (text_order a.0 b.0)
    (ordering_then (text_order a.1.sha256 b.1.sha256)
    (ordering_then (text_order a.1.sha1 b.1.sha1)
    (ordering_then (text_order a.1.md5 b.1.md5)
    (nat_cmp a.1.size b.1.size))))

-- the order of judging of two .changes that arrived
abbrev pub candidate_order : Candidate → Candidate → Ordering
candidate_order c d = judging_order (c.name, print_of c.body) (d.name, print_of d.body)

-- the list with one more in its place, before those that tie with it
abbrev pub put_in_order : Candidate → List Candidate → List Candidate
put_in_order c [] = c ∷ []
put_in_order c (d ∷ ds) = if is_gt (candidate_order c d) then d ∷ put_in_order c ds else c ∷ d ∷ ds

abbrev pub in_order : List Candidate → List Candidate
in_order [] = []
in_order (c ∷ cs) = put_in_order c (in_order cs)

-- the uploads without a verdict, in the order of judging
unfoldable pub unjudged : Book → List Candidate
unjudged book = in_order (filter (λ c. not (is_judged book.judged c)) (candidates book.arrivals))

-- the uploads without a verdict of which each listed file has arrived
unfoldable pub due : Book → List Candidate
due book = filter (is_complete book.arrivals) (unjudged book)

-- the body that arrived for a listed file
unfoldable pub body_for : List Arrival → Entry → List ℕ
body_for arrivals entry = unwrap_or (option_map (λ a. a.body) (find (is_body_of entry) arrivals)) []

-- the upload as it is judged: its record, and the texts of its .dsc and sidecars
unfoldable pub upload_of : List Arrival → Candidate → UploadValue
upload_of arrivals c = record {
  name = c.name;
  print = print_of c.body;
  changes = c.changes;
  texts = map (λ e. if has_text e.name then body_for arrivals e else []) c.changes.entries;
}

-- ---- what waits

-- the listed files with one more in its place by name, before those of its name
abbrev pub put_by_name : Entry → List Entry → List Entry
put_by_name e [] = e ∷ []
put_by_name e (f ∷ fs) = if is_gt (text_order e.name f.name) then f ∷ put_by_name e fs else e ∷ f ∷ fs

-- the listed files in the order of their names
abbrev pub by_name : List Entry → List Entry
by_name [] = []
by_name (e ∷ es) = put_by_name e (by_name es)

-- what is said of a listed file of which no arrival counts: it is ended if it is among all arrivals
abbrev pub lack_of : List Arrival → Entry → Lack
lack_of all e = record { name = e.name; print = e.print; is_ended = is_there all e }

-- what is lacking of these listed files, if the second of these arrivals count: those of which none counts, in the order of their names
unfoldable pub lacks_of : (all now : List Arrival) → List Entry → List Lack
lacks_of all now entries = map (lack_of all) (filter (λ e. not (is_there now e)) (by_name entries))

-- an upload without a verdict, with what it lacks
abbrev pub waiting_of : (all now : List Arrival) → Candidate → Waiting
waiting_of all now c = record { name = c.name; print = print_of c.body; lacks = lacks_of all now c.changes.entries }

-- the uploads without a verdict whose .changes counts at a moment, in the order of judging, each with what it lacks then
unfoldable pub waiting_list : ℕ → Book → List Waiting
waiting_list moment book = map (waiting_of book.arrivals (at_moment moment book).arrivals) (unjudged (at_moment moment book))

-- ---- texts

-- the index text at a path
abbrev pub text_at : Book → List ℕ → Option (List ℕ)
text_at book path = index_text book.config book.shown book.dates path

-- the text is the one that is kept
unfoldable pub is_kept : Option (List ℕ) → List ℕ → Bool
is_kept None text = false
is_kept (Some kept) text = bytes_eq kept text

-- ---- changes

-- the plan puts or drops an item of the suite
unfoldable pub touches : ℕ → Plan → Bool
touches suite plan =
    list_any (λ e. nat_eq e.0.suite suite) plan.put || list_any (λ e. nat_eq e.0.suite suite) plan.dropped

-- the dates of the suites after a plan is made: its moment for each suite that it touches
unfoldable pub dates_after : ℕ → List ℕ → Plan → List ℕ
dates_after moment dates plan =
    map (λ d. if touches d.0 plan then moment else d.1) (enumerate_from 0 dates)

-- the body of the file at a path: the old one if its print fits, else one that arrived
unfoldable pub stored_body : Book → List ℕ → Print → Option (List ℕ)
stored_body book path print =
    option_or (option_and_then (λ body. if same_print (print_of body) print then Some body else None) (book.files path))
    (option_map (λ a. a.body) (find (λ a. same_print (print_of a.body) print) book.arrivals))

-- the pool's bodies if the suites show this
abbrev pub files_showing : Book → ShelvesValue → List ℕ → Option (List ℕ)
files_showing book shown path = option_and_then (stored_body book path) (get (pool shown) path)

-- what the steps leave shown, and the dates
abbrev pub shown_past : ShelvesValue → List Step → ShelvesValue
shown_past shown steps = fold (λ now step. applied now step.plan) shown steps

abbrev pub dates_past : ℕ → List ℕ → List Step → List ℕ
dates_past moment dates steps = fold (λ now step. dates_after moment now step.plan) dates steps

abbrev pub judgements : List Step → List Judgement
judgements steps = filter_map (λ step. step.judgement) steps

-- the book after a change
unfoldable pub amended : Book → Change → Book
amended book change = record {
  config = book.config;
  arrivals = book.arrivals;
  judged = book.judged ++ judgements change.steps;
  shown = shown_past book.shown change.steps;
  files = files_showing book (shown_past book.shown change.steps);
  dates = dates_past change.moment book.dates change.steps;
}

-- The shown items agree on the contents at each path, and the files of the book are those of its pool, each a body of the
-- print that is shown there.
pub record HasItsFiles (book : Book) : Type 0 where
  pub agreed : AreAgreed (files_of (values book.shown))
  pub files : (path : List ℕ) → get (pool book.shown) path ≡ option_map print_of (book.files path)

-- the book of an archive of this configuration in which nothing is yet, made at this moment
unfoldable pub fresh_book : ConfigValue → ℕ → Book
fresh_book config moment = record {
  config = config;
  arrivals = [];
  judged = [];
  shown = empty;
  files = λ path. None;
  dates = replicate (length config.suites) moment;
}
