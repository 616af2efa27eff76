-- The tables of an archive, as SQL defines them.
use Rattle.std.specs.Prelude.{ℕ, Bool, true, false, List, [], ◌∷◌, ◌++◌, map, fold, codes, Option, Some, None}
use Rattle.sqlite_value.specs.Keys.{plain}
use Rattle.sqlite_schema.specs.declared.schema.Column.{Column}
use Rattle.sqlite_schema.specs.declared.schema.Reference.{Reference}
use Rattle.sqlite_schema.specs.declared.schema.Action.TheVariants.{NoAction}
use Rattle.sqlite.specs.declared.types.Value.TheVariants.{Null}
use Rattle.sqlite.specs.Table.{Table}
use Rattle.sqlite.specs.Schema.{Schema}
use Rattle.sqlite.specs.Kind.{Kind}
use Rattle.sqlite.specs.Kind.TheVariants.{Integer, Text, Blob}
use Rattle.sqlite.specs.Collation.TheVariants.{Binary}
use Rattle.sqlite.specs.Change.{created}

abbrev pub no_schema : Schema
no_schema = record { tables = []; indexes = []; views = [] }

abbrev pub column : List ℕ → Kind → Bool → Column
column name kind not_null = record { name = name; kind = kind; is_strict = true; not_null = not_null; default = Null; collation = Binary }

-- a column that is never NULL
abbrev pub needed : List ℕ → Kind → Column
needed name kind = column name kind true

-- a column that may be NULL; an INTEGER PRIMARY KEY is declared as one
abbrev pub nullable : List ℕ → Kind → Column
nullable name kind = column name kind false

-- size and digests, by either kind of column
abbrev pub print_columns : (List ℕ → Kind → Column) → List Column
print_columns col = col (codes "size") Integer ∷ col (codes "md5") Blob ∷ col (codes "sha1") Blob ∷ col (codes "sha256") Blob ∷ []

-- a STRICT table with these columns, the place of its INTEGER PRIMARY KEY, its primary key, its unique keys, and what it refers to
abbrev pub table : List ℕ → List Column → Option ℕ → List ℕ → List (List ℕ) → List Reference → Table
table name columns key primary uniques references = record {
  name = name;
  tree = 0;
  columns = columns;
  key = key;
  primary = primary;
  uniques = uniques;
  orders = map (λ _. plain) uniques;
  checks = [];
  references = references;
  computed = [];
  stamps = record { places = []; terms = []; formats = [] };
  is_counted = false;
}

-- a column that refers to the `id` of another table
abbrev pub refers : ℕ → List ℕ → Reference
refers column parent = record { columns = column ∷ []; parent = parent; parent_columns = codes "id" ∷ []; on_delete = NoAction; on_update = NoAction; is_deferred = false }

abbrev pub meta : Table
meta = table (codes "meta") (needed (codes "version") Integer ∷ needed (codes "configuration") Blob ∷ []) None [] [] []

abbrev pub bodies : Table
bodies = table (codes "bodies") (nullable (codes "id") Integer ∷ print_columns nullable) (Some 0) (0 ∷ []) ((2 ∷ 3 ∷ 4 ∷ 5 ∷ []) ∷ []) []

abbrev pub pieces : Table
pieces =
    table (codes "pieces") (needed (codes "body") Integer ∷ needed (codes "number") Integer ∷ needed (codes "bytes") Blob ∷ []) None (1 ∷ 2 ∷ []) ((1 ∷ 2 ∷ []) ∷ [])
    (refers 1 (codes "bodies") ∷ [])

abbrev pub arrivals : Table
arrivals =
    table (codes "arrivals") (nullable (codes "id") Integer ∷ needed (codes "name") Text ∷ needed (codes "body") Integer ∷ needed (codes "moment") Integer ∷ []) (Some 0) (0 ∷ [])
    ((2 ∷ 3 ∷ []) ∷ []) (refers 3 (codes "bodies") ∷ [])

abbrev pub uploads : Table
uploads =
    table (codes "uploads")
    (nullable (codes "id") Integer ∷ needed (codes "name") Text ∷ (print_columns needed ++ nullable (codes "place") Integer ∷ nullable (codes "verdict") Integer ∷ []))
    (Some 0) (0 ∷ []) ((7 ∷ []) ∷ (2 ∷ 3 ∷ 4 ∷ 5 ∷ 6 ∷ []) ∷ []) []

-- the second key finds the entries of a name and print
abbrev pub wants : Table
wants =
    table (codes "wants") (needed (codes "upload") Integer ∷ needed (codes "name") Text ∷ (print_columns needed ++ needed (codes "here") Integer ∷ [])) None (1 ∷ 2 ∷ [])
    ((1 ∷ 2 ∷ []) ∷ (2 ∷ 3 ∷ 4 ∷ 5 ∷ 6 ∷ 1 ∷ []) ∷ []) (refers 1 (codes "uploads") ∷ [])

abbrev pub items : Table
items =
    table (codes "items")
    (nullable (codes "id") Integer ∷ needed (codes "suite") Text ∷ needed (codes "kind") Integer ∷ needed (codes "package") Text ∷ needed (codes "architecture") Text
    ∷ needed (codes "version") Text ∷ needed (codes "component") Text ∷ needed (codes "source") Text ∷ needed (codes "paragraph") Blob ∷ [])
    (Some 0) (0 ∷ []) ((2 ∷ 3 ∷ 4 ∷ 5 ∷ []) ∷ []) []

abbrev pub refs : Table
refs =
    table (codes "refs") (needed (codes "item") Integer ∷ needed (codes "number") Integer ∷ needed (codes "path") Text ∷ print_columns needed) None (1 ∷ 2 ∷ [])
    ((1 ∷ 2 ∷ []) ∷ []) (refers 1 (codes "items") ∷ [])

abbrev pub files : Table
files = table (codes "files") (needed (codes "path") Text ∷ needed (codes "body") Integer ∷ []) None (1 ∷ []) ((1 ∷ []) ∷ []) (refers 2 (codes "bodies") ∷ [])

abbrev pub texts : Table
texts = table (codes "texts") (needed (codes "path") Text ∷ needed (codes "body") Blob ∷ []) None (1 ∷ []) ((1 ∷ []) ∷ []) []

abbrev pub dates : Table
dates = table (codes "dates") (needed (codes "suite") Text ∷ needed (codes "moment") Integer ∷ []) None (1 ∷ []) ((1 ∷ []) ∷ []) []

-- each of them with its tree
abbrev pub meta_table : Table
meta_table = record meta { tree = 0 }

abbrev pub bodies_table : Table
bodies_table = record bodies { tree = 1 }

abbrev pub pieces_table : Table
pieces_table = record pieces { tree = 3 }

abbrev pub arrivals_table : Table
arrivals_table = record arrivals { tree = 5 }

abbrev pub uploads_table : Table
uploads_table = record uploads { tree = 7 }

abbrev pub wants_table : Table
wants_table = record wants { tree = 10 }

abbrev pub items_table : Table
items_table = record items { tree = 13 }

abbrev pub refs_table : Table
refs_table = record refs { tree = 15 }

abbrev pub files_table : Table
files_table = record files { tree = 17 }

abbrev pub texts_table : Table
texts_table = record texts { tree = 19 }

abbrev pub dates_table : Table
dates_table = record dates { tree = 21 }

-- the tables of an archive, in the order in which they are made
abbrev pub archive_tables : List Table
archive_tables = meta ∷ bodies ∷ pieces ∷ arrivals ∷ uploads ∷ wants ∷ items ∷ refs ∷ files ∷ texts ∷ dates ∷ []

abbrev pub archive_schema : Schema
archive_schema = fold created no_schema archive_tables
