-- What a new archive is: its first rows, and what makes them.
use Rattle.std.specs.Prelude.{◌≡◌, ℕ, true, List, [], map, fold, length, replicate, slice_get, IsTrue}
use Rattle.std.specs.Option.{option_map_or}
use Rattle.std.specs.FinMap.{empty}
use Rattle.sqlite.specs.Effect.{Database}
use Rattle.sqlite.specs.State.{State, KeepsCommit, Shows}
use Rattle.sqlite.specs.Tree.{Trees}
use Rattle.rules.specs.Values.{ConfigValue}
use Rattle.rules.specs.declared.suite.Suite.{Suite}
use Rattle.suites.specs.Shelves.{ShelvesValue}
use Rattle.indices.specs.Indices.{PathText, all_texts, suite_path, suite_texts}
use Rattle.indices.specs.Places.{place_entry, places_in}
use Rattle.indices.specs.declared.index.IndexPlace.{IndexPlace}
use Rattle.tables.specs.Rows.{Tables, Holds, no_rows, with_meta, with_text, with_date}
use Rattle.tables.specs.Schema.{no_schema}
use Rattle.tables.specs.declared.rows.Date.{Date}
use Rattle.tables.specs.declared.meta.TheConstants.{VERSION}

-- ---- the first rows

abbrev pub with_path_text : PathText → Tables → Tables
with_path_text x t = with_text (record { path = x.0; body = x.1 }) t

-- these texts are added, each with its path, in this order
unfoldable pub with_texts : List PathText → Tables → Tables
with_texts texts t = fold (λ now x. with_path_text x now) t texts

-- these dates are added, in this order
unfoldable pub with_dates : List Date → Tables → Tables
with_dates dates t = fold (λ now d. with_date d now) t dates

-- the date of each suite at first
abbrev pub first_dates : ConfigValue → ℕ → List ℕ
first_dates config moment = replicate (length config.suites) moment

-- the row of the date of a suite
abbrev pub first_date : ℕ → Suite → Date
first_date moment s = record { suite = s.codename; moment = moment }

-- The version of the tables and the configuration, then the texts of an archive that shows nothing, then the dates.
unfoldable pub with_first_rows : ConfigValue → ℕ → Tables → Tables
with_first_rows config moment t =
    with_dates (map (first_date moment) config.suites)
    (with_texts (all_texts config empty (first_dates config moment)) (with_meta (record { version = VERSION; configuration = config.text }) t))

-- the rows of a new archive of this configuration, made at this moment
unfoldable pub founded : ConfigValue → ℕ → Tables
founded config moment = with_first_rows config moment no_rows

-- ---- an index by its whole path

abbrev pub from_root : Suite → PathText → PathText
from_root s e = (suite_path s e.0, e.1)

-- the indices at places of the suite at a position
abbrev pub placed_texts : ShelvesValue → ℕ → Suite → List IndexPlace → List PathText
placed_texts shelves position s places = map (λ p. from_root s (place_entry shelves position p)) places

-- all indices of the suite at a position, except Release
abbrev pub listed_at : ShelvesValue → ℕ → Suite → List PathText
listed_at shelves position s = placed_texts shelves position s (places_in s.components s.architectures)

-- the texts of the suite at a position, or no texts if there is no suite
abbrev pub suite_texts_at : ConfigValue → ShelvesValue → ℕ → ℕ → List PathText
suite_texts_at config shelves position moment = option_map_or (λ s. suite_texts shelves position s moment) (slice_get config.suites position) []

-- ---- inside a transaction

module _ (old new : State) where
  -- The transaction goes on: whatever rows the tables held, they hold the changed ones now, and what was committed stays.
  -- It may be that no statement ran.
  pub record Continues (change : Tables → Tables) : Type 0 where
    pub held : (t : Tables) → Holds old.now t → Holds new.now (change t)
    pub kept : KeepsCommit old new
    pub stays : IsTrue old.is_open → IsTrue new.is_open
    pub mode : new.in_transaction ≡ true

  -- Inside a transaction: a database without any table holds these rows now, and what was committed stays.
  pub record Founds (rows : Tables) : Type 0 where
    pub held : old.now.schema ≡ no_schema → Holds new.now rows
    pub shown : Shows old new new.now old.committed true

  -- A database without any table holds these rows now, and that is committed.
  pub record IsFounded (rows : Tables) : Type 0 where
    pub was_open : IsTrue old.is_open
    pub is_open : IsTrue new.is_open
    pub now_is : new.now ≡ new.committed
    pub held : old.now.schema ≡ no_schema → Holds new.committed rows

-- the trees are those that the commit of these first rows writes
abbrev pub MayFound : State → Tables → Trees → Type 0
MayFound old rows trees = (db : Database) × (trees ≡ db.trees) × IsTrue old.is_open × (old.now.schema ≡ no_schema → Holds db rows)
