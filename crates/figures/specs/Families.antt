-- Families of numbers, each under one name, as Prometheus has them, and what they say of a book at a moment.
use Rattle.std.specs.Prelude.{ℕ, List, [], ◌∷◌, ◌++◌, map, length, codes, Option, Some, None, option_to_list}
use Rattle.std.specs.Fmt.{decimal}
use Rattle.std.specs.List.{enumerate_from, flat_map}
use Rattle.book.specs.Book.{Book, waiting_list, arrived_in}
use Rattle.book.specs.declared.arrived.ArrivedFile.{ArrivedFile}
use Rattle.book.specs.declared.change.Judgement.{Judgement}
use Rattle.book.specs.declared.change.Waiting.{Waiting}
use Rattle.rules.specs.Verdicts.{all_verdicts, number_of}
use Rattle.rules.specs.declared.suite.Suite.{Suite}
use Rattle.suites.specs.Shelves.{ShelvesValue}
use Rattle.indices.specs.Counting.{item_count}
use Rattle.figures.specs.Numbers.{in_state, oldest, judged_as, date_at, end_at, kept_prints, bytes_of}
use Rattle.figures.specs.declared.family.Figure.{Figure}
use Rattle.figures.specs.declared.family.Figure.TheVariants as figure
use Rattle.figures.specs.declared.family.Family.{Family}
use Rattle.figures.specs.declared.family.Sample.{Sample}
use Rattle.figures.specs.declared.waiting.State.{State}
use Rattle.figures.specs.declared.waiting.State.TheVariants.{Whole, Lacking}

-- ---- what each figure is called and says

-- its name for monitoring
unfoldable pub name_of : Figure → List ℕ
name_of figure.Moment = codes "boqitsel_moment_timestamp_seconds"
name_of figure.Waiting = codes "boqitsel_uploads_waiting"
name_of figure.Oldest = codes "boqitsel_uploads_waiting_oldest_timestamp_seconds"
name_of figure.Verdicts = codes "boqitsel_verdicts_total"
name_of figure.Items = codes "boqitsel_suite_items"
name_of figure.Changed = codes "boqitsel_suite_changed_timestamp_seconds"
name_of figure.Until = codes "boqitsel_suite_valid_until_timestamp_seconds"
name_of figure.Arrivals = codes "boqitsel_arrivals"
name_of figure.Bodies = codes "boqitsel_bodies"
name_of figure.Bytes = codes "boqitsel_bodies_bytes"

-- what it says, for people
unfoldable pub help_of : Figure → List ℕ
help_of figure.Moment = codes "Moment of this answer."
help_of figure.Waiting = codes "Uploads without a verdict."
help_of figure.Oldest = codes "Moment of the .changes that has waited longest."
help_of figure.Verdicts = codes "Verdicts given, by number; 0 is accepted."
help_of figure.Items = codes "Items that the suite shows."
help_of figure.Changed = codes "Date of the suite's Release."
help_of figure.Until = codes "Valid-Until of the suite's Release."
help_of figure.Arrivals = codes "Files that arrived and were not cleaned."
help_of figure.Bodies = codes "Contents of arrivals and of the pool, each once."
help_of figure.Bytes = codes "Bytes of these contents."

-- its type: verdicts are never taken away, so they are a counter
unfoldable pub type_of : Figure → List ℕ
type_of figure.Verdicts = codes "counter"
type_of _ = codes "gauge"

-- the name of its label, or an empty text if it has none
unfoldable pub label_of : Figure → List ℕ
label_of figure.Waiting = codes "state"
label_of figure.Oldest = codes "state"
label_of figure.Verdicts = codes "verdict"
label_of figure.Items = codes "suite"
label_of figure.Changed = codes "suite"
label_of figure.Until = codes "suite"
label_of _ = []

-- its word in the lines of `archive status`
unfoldable pub word_of : Figure → List ℕ
word_of figure.Moment = codes "moment"
word_of figure.Waiting = codes "waiting"
word_of figure.Oldest = codes "oldest"
word_of figure.Verdicts = codes "verdict"
word_of figure.Items = codes "items"
word_of figure.Changed = codes "changed"
word_of figure.Until = codes "until"
word_of figure.Arrivals = codes "arrivals"
word_of figure.Bodies = codes "bodies"
word_of figure.Bytes = codes "bytes"

-- the word of a state
unfoldable pub state_word : State → List ℕ
state_word Whole = codes "whole"
state_word Lacking = codes "lacking"

-- ---- samples

-- a number without a label
abbrev pub lone : ℕ → List Sample
lone number = record { label = None; number = number } ∷ []

-- a number, and the value of its label
abbrev pub labelled : List ℕ → ℕ → Sample
labelled label number = record { label = Some label; number = number }

-- a number, if there is one, and the value of its label
abbrev pub labelled_if : List ℕ → Option ℕ → List Sample
labelled_if label number = map (labelled label) (option_to_list number)

-- how many uploads wait in a state
abbrev pub waiting_sample : List Waiting → State → Sample
waiting_sample waiting state = labelled (state_word state) (length (in_state state waiting))

-- since when one waits in a state
abbrev pub oldest_samples : List Waiting → List ArrivedFile → State → List Sample
oldest_samples waiting arrived state = labelled_if (state_word state) (oldest (in_state state waiting) arrived)

-- how many verdicts of a number were given
abbrev pub verdict_sample : List Judgement → ℕ → Sample
verdict_sample judged number = labelled (decimal number) (judged_as judged number)

-- how many items a suite shows, by its position
abbrev pub items_sample : ShelvesValue → ℕ × Suite → Sample
items_sample shelves s = labelled s.1.codename (item_count shelves s.0 None)

-- the date of a suite, by its position
abbrev pub changed_sample : List ℕ → ℕ × Suite → Sample
changed_sample dates s = labelled s.1.codename (date_at dates s.0)

-- until when a suite's Release is valid, by its position
abbrev pub until_samples : List ℕ → ℕ × Suite → List Sample
until_samples dates s = labelled_if s.1.codename (end_at dates s.0 s.1)

-- ---- families

-- the numbers under one name
abbrev pub family : Figure → List Sample → Family
family f samples = record { figure = f; samples = samples }

unfoldable pub waiting_family : List Waiting → Family
waiting_family waiting =
    family figure.Waiting (waiting_sample waiting Whole ∷ waiting_sample waiting Lacking ∷ [])

unfoldable pub oldest_family : List Waiting → List ArrivedFile → Family
oldest_family waiting arrived =
    family figure.Oldest (oldest_samples waiting arrived Whole ++ oldest_samples waiting arrived Lacking)

unfoldable pub verdicts_family : List Judgement → Family
verdicts_family judged = family figure.Verdicts (map (verdict_sample judged) (map number_of all_verdicts))

-- what is said of uploads
abbrev pub uploads_families : List Waiting → List ArrivedFile → List Judgement → List Family
uploads_families waiting arrived judged =
    waiting_family waiting ∷ oldest_family waiting arrived ∷ verdicts_family judged ∷ []

unfoldable pub items_family : List Suite → ShelvesValue → Family
items_family suites shelves = family figure.Items (map (items_sample shelves) (enumerate_from 0 suites))

unfoldable pub changed_family : List Suite → List ℕ → Family
changed_family suites dates = family figure.Changed (map (changed_sample dates) (enumerate_from 0 suites))

unfoldable pub until_family : List Suite → List ℕ → Family
until_family suites dates = family figure.Until (flat_map (until_samples dates) (enumerate_from 0 suites))

-- what is said of suites
abbrev pub suites_families : List Suite → List ℕ → ShelvesValue → List Family
suites_families suites dates shelves =
    items_family suites shelves ∷ changed_family suites dates ∷ until_family suites dates ∷ []

-- what is said of all that is kept
abbrev pub kept_families : List ArrivedFile → ShelvesValue → List Family
kept_families arrived shelves =
    family figure.Arrivals (lone (length arrived))
    ∷ family figure.Bodies (lone (length (kept_prints arrived shelves)))
    ∷ family figure.Bytes (lone (bytes_of (kept_prints arrived shelves)))
    ∷ []

-- the figures of a book at a moment
unfoldable pub families : ℕ → Book → List Family
families moment book =
    family figure.Moment (lone moment)
    ∷ (uploads_families (waiting_list moment book) (arrived_in book) book.judged
    ++ (suites_families book.config.suites book.dates book.shown
    ++ kept_families (arrived_in book) book.shown))
