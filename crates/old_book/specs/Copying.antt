-- Rows of an archive's tables, as they are written into tables that are empty.
use Rattle.std.specs.Prelude.{◌≡◌, ℕ, true, List, [], map, IsTrue}
use Rattle.std.specs.List.{enumerate_from}
use Rattle.sqlite.specs.State.{State, KeepsCommit}
use Rattle.tables.specs.Rows.{Tables, Numbered, Rises, Holds, first_number, rows_of}
use Rattle.tables.specs.declared.rows.ArrivalRow.{ArrivalRow}

-- the rows of a table in their order, under the numbers that an empty table gives
abbrev pub anew : {X : Type 0} → List X → Numbered X
anew rows = enumerate_from first_number rows

-- an arrival, as of another moment
abbrev pub arrived_at : ℕ → ArrivalRow → ArrivalRow
arrived_at moment a = record a { moment = moment }

-- The tables to which rows are copied have no row.
pub record IsBare (t : Tables) : Type 0 where
  pub bodies : t.bodies ≡ []
  pub pieces : t.pieces ≡ []
  pub arrivals : t.arrivals ≡ []
  pub uploads : t.uploads ≡ []
  pub wants : t.wants ≡ []
  pub items : t.items ≡ []
  pub refs : t.refs ≡ []
  pub files : t.files ≡ []

-- The numbers to which other rows refer rise.
pub record AreRising (t : Tables) : Type 0 where
  pub bodies : Rises t.bodies
  pub uploads : Rises t.uploads
  pub items : Rises t.items

-- The rows of one archive in the tables of another: bodies, uploads and items under the numbers that they have, since other rows
-- refer to these, and all others numbered from 1. Each arrival gets the moment. The configuration, the texts and the dates of the
-- other archive stay.
abbrev pub copied : Tables → ℕ → Tables → Tables
copied t moment into = record into {
  bodies = t.bodies;
  pieces = anew (rows_of t.pieces);
  arrivals = anew (map (arrived_at moment) (rows_of t.arrivals));
  uploads = t.uploads;
  wants = anew (rows_of t.wants);
  items = t.items;
  refs = anew (rows_of t.refs);
  files = anew (rows_of t.files);
}

-- The transaction goes on. If the tables that get the copies had no row, they hold the copied rows now, and the others are as they
-- were. What was committed stays.
pub record Copies (old new : State) (t : Tables) (moment : ℕ) : Type 0 where
  pub held : (into : Tables) → IsBare into → Holds old.now into → Holds new.now (copied t moment into)
  pub kept : KeepsCommit old new
  pub stays : IsTrue old.is_open → IsTrue new.is_open
  pub mode : new.in_transaction ≡ true
