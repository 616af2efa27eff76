-- How the tables of an archive come to be, and its indexes.
use Rattle.std.specs.Prelude.{◌≡◌, ℕ, true, List, [], ◌∷◌, slice_index_or, take, fold}
use Rattle.std.specs.List.{AllByRecursion}
use Rattle.sqlite.specs.Schema.{Schema}
use Rattle.sqlite.specs.Effect.{Database}
use Rattle.sqlite.specs.Change.{created}
use Rattle.sqlite.specs.State.{State, KeepsCommit}
use Rattle.tables.specs.declared.schema.TheConstants.{CREATE_META, CREATE_BODIES, CREATE_PIECES, CREATE_ARRIVALS, CREATE_UPLOADS, CREATE_WANTS, CREATE_ITEMS, CREATE_REFS, CREATE_FILES, CREATE_TEXTS, CREATE_DATES}
use Rattle.tables.specs.Schema.{no_schema, archive_schema, archive_tables}
use Rattle.tables.specs.Others.{with_indexes}
use Rattle.tables.specs.Rows.{Holds, Tables, no_rows}

-- the database has this schema, and each of its tables is empty
pub record IsEmpty (schema : Schema) (db : Database) : Type 0 where
  pub schema_is : db.schema ≡ schema
  pub empty : AllByRecursion (λ t. db.trees t.tree ≡ []) schema.tables

abbrev pub create_texts : List (List ℕ)
create_texts = CREATE_META.now ∷ CREATE_BODIES.now ∷ CREATE_PIECES.now ∷ CREATE_ARRIVALS.now ∷ CREATE_UPLOADS.now ∷ CREATE_WANTS.now ∷ CREATE_ITEMS.now ∷ CREATE_REFS.now ∷ CREATE_FILES.now ∷ CREATE_TEXTS.now ∷ CREATE_DATES.now ∷ []

-- the text that makes the table at this place
abbrev pub text_at : ℕ → List ℕ
text_at at = slice_index_or create_texts at []

-- the schema of the first of the archive's tables
abbrev pub schema_up_to : ℕ → Schema
schema_up_to count = fold created no_schema (take count archive_tables)

-- Inside a transaction: a database without any table holds the tables of an archive now, all of them empty, and what was
-- committed stays.
pub record Creates (old new : State) : Type 0 where
  pub held : old.now.schema ≡ no_schema → Holds new.now no_rows
  pub made : old.now.schema ≡ no_schema → new.now.schema ≡ archive_schema
  pub kept : KeepsCommit old new
  pub mode : new.in_transaction ≡ true

-- Inside a transaction: a database with the tables of an archive alone holds the rows that it held, and has the two indexes of bodies now;
-- what was committed stays.
pub record CreatesIndexes (old new : State) : Type 0 where
  pub held : old.now.schema ≡ archive_schema → (t : Tables) → Holds old.now t → Holds new.now t
  pub made : old.now.schema ≡ archive_schema → new.now.schema ≡ with_indexes
  pub kept : KeepsCommit old new
  pub mode : new.in_transaction ≡ true
