-- Bodies that nothing uses.
use Rattle.std.specs.Prelude.{ℕ, not, List, filter, map}
use Rattle.tables.specs.Rows.{Tables}
use Rattle.tables_meaning.specs.Kept.{is_used}

-- the numbers of the bodies that no arrival and no file has
abbrev pub unused_in : Tables → List ℕ
unused_in t = map (λ x. x.0) (filter (λ x. not (is_used t x.0)) t.bodies)
