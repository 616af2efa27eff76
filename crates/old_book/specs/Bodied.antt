-- What arrived, and the files of the pool, and the bodies that these have.
use Rattle.std.specs.Prelude.{Bool, ◌&&◌}
use Rattle.std.specs.List.{list_all}
use Rattle.tables.specs.Rows.{Tables, rows_of}
use Rattle.tables_meaning.specs.Kept.{has_body}

-- each arrival, and each file of the pool, has a body that is there
unfoldable pub have_bodies : Tables → Bool
have_bodies t = list_all (λ a. has_body t a.body) (rows_of t.arrivals) && list_all (λ f. has_body t f.body) (rows_of t.files)
