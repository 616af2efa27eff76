-- Bodies that nothing uses, and the rows without them.
use Rattle.std.specs.Prelude.{◌&&◌, not}
use Rattle.std.specs.List.{list_any}
use Rattle.tables.specs.Pieces.{is_of}
use Rattle.tables.specs.Rows.{Tables, without}
use Rattle.tables_meaning.specs.Kept.{is_used}

-- The rows without the bodies that no arrival and no file has, and without their pieces. A body that is coming is such a one.
unfoldable pub swept : Tables → Tables
swept t = record t {
  bodies = without (λ x. not (is_used t x.0)) t.bodies;
  pieces = without (λ p. list_any (λ x. not (is_used t x.0) && is_of x.0 p.1) t.bodies) t.pieces;
}
