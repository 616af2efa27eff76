-- The words of the functions on bodies that are not whole.
use Rattle.std.specs.Prelude.{ℕ, nat_eq, Bool, ◌||◌, List, map, filter}
use Rattle.std.specs.List.{list_any}
use Rattle.tables.specs.Rows.{Numbered, Tables, rows_of}
use Rattle.tables.specs.declared.rows.BodyRow.{BodyRow}
use Rattle.tables_meaning.specs.Finished.{is_unfinished}

-- the numbers of the bodies that are not whole
abbrev pub unfinished_ids : Numbered BodyRow → List ℕ
unfinished_ids bodies = map (λ x. x.0) (filter is_unfinished bodies)

-- the number is one of these
abbrev pub is_among : List ℕ → ℕ → Bool
is_among ids id = list_any (λ n. nat_eq id n) ids

-- an arrival or a file names one of these bodies
abbrev pub are_named : Tables → List ℕ → Bool
are_named t ids = list_any (λ a. is_among ids a.body) (rows_of t.arrivals) || list_any (λ f. is_among ids f.body) (rows_of t.files)
