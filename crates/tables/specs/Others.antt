-- A database that holds the tables of an archive first, and others after them.
use Rattle.std.specs.Prelude.{◌≡◌, nat_lt, nat_eq, bytes_eq, ℕ, Bool, true, false, not, ◌&&◌, ◌||◌, List, [], ◌∷◌, ◌++◌, codes, drop, get_or, length}
use Rattle.std.specs.List.{list_any, list_all}
use Rattle.sqlite_value.specs.Keys.{plain}
use Rattle.sqlite_schema.specs.Names.{same_name}
use Rattle.sqlite_schema.specs.declared.schema.Reference.{Reference}
use Rattle.sqlite_schema.specs.declared.schema.Index.{Index}
use Rattle.sqlite_schema.specs.declared.schema.View.{View}
use Rattle.sqlite.specs.Table.{Table}
use Rattle.sqlite.specs.Schema.{Schema}
use Rattle.tables.specs.Schema.{archive_schema}

-- ---- the two indexes of bodies, which are no part of the layout

-- the index that finds the arrivals of a body
abbrev pub arrivals_by_body : Index
arrivals_by_body = record { name = codes "arrivals_by_body"; tree = 0; table = 5; columns = 3 ∷ []; order = plain; is_unique = false }

-- the index that finds the files of a body
abbrev pub files_by_body : Index
files_by_body = record { name = codes "files_by_body"; tree = 0; table = 17; columns = 2 ∷ []; order = plain; is_unique = false }

-- the columns are this one column
abbrev pub is_by : List ℕ → ℕ → Bool
is_by columns column = nat_eq (length columns) 1 && nat_eq (get_or columns 0 0) column

-- the index has the name, the table and the column of this one, and takes any rows
abbrev pub is_like : Index → Index → Bool
is_like i known = bytes_eq i.name known.name && (nat_eq i.table known.table && (is_by i.columns (get_or known.columns 0 0) && not i.is_unique))

-- the index is one of the two, in whatever tree it stands
unfoldable pub is_known : Index → Bool
is_known i = is_like i arrivals_by_body || is_like i files_by_body

-- ---- what follows the tables of an archive

pub record Others : Type 0 where
  pub tables : List Table
  pub indexes : List Index
  pub views : List View

abbrev pub with_others : Others → Schema
with_others o = record { tables = archive_schema.tables ++ o.tables; indexes = archive_schema.indexes ++ o.indexes; views = o.views }

-- the name is one of the archive's tables
unfoldable pub is_ours : List ℕ → Bool
is_ours name = list_any (λ t. same_name t.name name) archive_schema.tables

-- the last tree of an archive
abbrev pub last_tree : ℕ
last_tree = 22

-- the reference is to no table of an archive
abbrev pub is_elsewhere : Reference → Bool
is_elsewhere ref = not (is_ours ref.parent)

-- a table that comes after those of an archive and refers to none of them
unfoldable pub is_apart : Table → Bool
is_apart t = nat_lt last_tree t.tree && list_all is_elsewhere t.references

-- an index of such a table, or one of the two indexes of bodies
unfoldable pub is_apart_from : Index → Bool
is_apart_from i = nat_lt last_tree i.table || is_known i

-- Other tables refer to none of an archive's tables, and other indexes, except the two of bodies, are on none of them.
pub record AreApart (o : Others) : Type 0 where
  pub tables : list_all is_apart o.tables ≡ true
  pub indexes : list_all is_apart_from o.indexes ≡ true

-- the tables of an archive with the two indexes, as they are made
abbrev pub with_indexes : Schema
with_indexes = with_others (record { tables = []; indexes = record arrivals_by_body { tree = 23 } ∷ record files_by_body { tree = 24 } ∷ []; views = [] })

-- what a schema has after as many tables and indexes as an archive has
abbrev pub others_in : Schema → Others
others_in s = record { tables = drop (length archive_schema.tables) s.tables; indexes = drop (length archive_schema.indexes) s.indexes; views = s.views }

-- The schema has the tables of an archive first, with their indexes, and then others that leave them alone.
pub record IsArchiveSchema (s : Schema) : Type 0 where
  pub is : s ≡ with_others (others_in s)
  pub apart : AreApart (others_in s)
