-- What the statements on arrivals speak of.
use Rattle.std.specs.Prelude.{ℕ, Bool, ◌&&◌, List, nat_eq, bytes_eq}
use Rattle.tables.specs.Rows.{Tables, changed, without}
use Rattle.tables.specs.declared.rows.ArrivalRow.{ArrivalRow}

-- the arrival is that of this body under this name
abbrev pub is_arrival : List ℕ → ℕ → ArrivalRow → Bool
is_arrival name body x = bytes_eq x.name name && nat_eq x.body body

-- the moment of the arrival of this number becomes another
abbrev pub with_moment : ℕ → ℕ → Tables → Tables
with_moment id moment t = record t { arrivals = changed (λ x. nat_eq x.0 id) (λ x. record x { moment = moment }) t.arrivals }

-- the arrival of this number is gone
abbrev pub without_arrival : ℕ → Tables → Tables
without_arrival id t = record t { arrivals = without (λ x. nat_eq x.0 id) t.arrivals }
