-- What a suite shows, and what all suites show, as lines.
use Rattle.std.specs.Prelude.{ℕ, nat_eq, List, ◌++◌, filter, codes}
use Rattle.std.specs.FinMap.{entries}
use Rattle.rules.specs.Values.{ConfigValue}
use Rattle.suites.specs.Shelves.{ShelvesValue}
use Rattle.suites.specs.declared.item.Item.{Item}
use Rattle.suites.specs.declared.key.ShelfKey.{ShelfKey}
use Rattle.suites.specs.Codenames.{codename_at}

-- a word, a space, and the words that follow
abbrev pub before : List ℕ → List ℕ → List ℕ
before word others = word ++ (codes " " ++ others)

-- the line of an item: its package, version, architecture, component and source
abbrev pub line_of : Item → List ℕ
line_of item = before item.«package» (before item.version (before item.architecture (before item.component item.source)))

-- the line of what stands on a shelf
abbrev pub line_on : ShelfKey × Item → List ℕ
line_on entry = line_of entry.1

-- the shelves of a suite with what stands on them, in their order
unfoldable pub shown_in : ℕ → ShelvesValue → List (ShelfKey × Item)
shown_in suite shelves = filter (λ entry. nat_eq entry.0.suite suite) (entries shelves)

-- the codename of the suite of a shelf, and the line of what stands there
abbrev pub line_in : ConfigValue → ShelfKey × Item → List ℕ
line_in config entry = before (codename_at config.suites entry.0.suite) (line_on entry)
