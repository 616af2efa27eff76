-- The numbers of a book at a moment: what waits, what was judged, what the suites show, and what is kept.
use Rattle.std.specs.Prelude.{ℕ, ◌+◌, ◌*◌, ◌-◌, ◌^◌, min, nat_eq, Bool, not, ◌&&◌, bytes_eq, List, [], ◌∷◌, ◌++◌, map, filter, length, get_or, if◌then◌else◌, Option, option_map}
use Rattle.std.specs.FinMap.{values}
use Rattle.std.specs.List.{list_any, reduce}
use Rattle.book.specs.declared.arrived.ArrivedFile.{ArrivedFile}
use Rattle.book.specs.declared.change.Judgement.{Judgement}
use Rattle.book.specs.declared.change.Waiting.{Waiting}
use Rattle.para.specs.Bytes.{is_nil}
use Rattle.rules.specs.Verdicts.{number_of}
use Rattle.rules.specs.declared.suite.Suite.{Suite}
use Rattle.suites.specs.Pool.{files_of}
use Rattle.suites.specs.Shelves.{ShelvesValue}
use Rattle.sums.specs.Prints.{same_print}
use Rattle.sums.specs.declared.print.Print.{Print}
use Rattle.figures.specs.declared.waiting.State.{State}
use Rattle.figures.specs.declared.waiting.State.TheVariants.{Whole, Lacking}

-- ---- what waits

-- An upload that waits is whole if each file that it lists is there, and else it lacks some.
abbrev pub is_in : State → Waiting → Bool
is_in Whole w = is_nil w.lacks
is_in Lacking w = not (is_nil w.lacks)

-- the uploads that wait in this state
abbrev pub in_state : State → List Waiting → List Waiting
in_state state waiting = filter (is_in state) waiting

-- what has arrived is the .changes of the upload
abbrev pub is_changes_of : ArrivedFile → Waiting → Bool
is_changes_of f w = bytes_eq f.name w.name && same_print f.print w.print

-- the moments of the .changes of these uploads
abbrev pub moments_of : List Waiting → List ArrivedFile → List ℕ
moments_of uploads arrived = map (λ f. f.moment) (filter (λ f. list_any (is_changes_of f) uploads) arrived)

-- the least of these moments, if there is an upload
unfoldable pub oldest : List Waiting → List ArrivedFile → Option ℕ
oldest uploads arrived = reduce min (moments_of uploads arrived)

-- ---- what was judged

-- how many uploads have the verdict of a number
unfoldable pub judged_as : List Judgement → ℕ → ℕ
judged_as judged number = length (filter (λ j. nat_eq (number_of j.verdict) number) judged)

-- ---- suites

-- the date of the Release of the suite at a position
abbrev pub date_at : List ℕ → ℕ → ℕ
date_at dates suite = get_or dates suite 0

-- until when the Release of the suite at a position is valid, if the suite says for how long (the field Valid-Until of a Release)
unfoldable pub end_at : List ℕ → ℕ → Suite → Option ℕ
end_at dates suite s = option_map (λ days. date_at dates suite + days * 86400) s.valid_days

-- ---- what is kept

-- the prints of the files of what the suites show, which are those of the pool
abbrev pub shown_prints : ShelvesValue → List Print
shown_prints shelves = map (λ f. f.1) (files_of (values shelves))

-- of prints that are the same the last
abbrev pub each_once : List Print → List Print
each_once [] = []
each_once (p ∷ ps) = if list_any (same_print p) ps then each_once ps else p ∷ each_once ps

-- the prints of the contents that are kept, those of arrivals and of the pool, each once
unfoldable pub kept_prints : List ArrivedFile → ShelvesValue → List Print
kept_prints arrived shelves = each_once (map (λ f. f.print) arrived ++ shown_prints shelves)

-- the sum of the sizes
abbrev pub size_of : List Print → ℕ
size_of [] = 0
size_of (p ∷ ps) = p.size + size_of ps

-- the sum of the sizes, or the greatest number of 64 bits if it is greater
abbrev pub bytes_of : List Print → ℕ
bytes_of prints = min (size_of prints) (2 ^ 64 - 1)
