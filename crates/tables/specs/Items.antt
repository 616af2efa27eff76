-- What the statements on items speak of.
use Rattle.std.specs.Prelude.{ℕ, Bool, ◌&&◌, List, nat_eq, bytes_eq}
use Rattle.tables.specs.Rows.{Tables, without}
use Rattle.tables.specs.declared.rows.ItemRow.{ItemRow}

-- the item is the one that this suite shows under this kind, package and architecture
abbrev pub is_item : List ℕ → ℕ → List ℕ → List ℕ → ItemRow → Bool
is_item suite kind name architecture x = bytes_eq x.suite suite && nat_eq x.kind kind && bytes_eq x.«package» name && bytes_eq x.architecture architecture

-- the item of this number is gone
abbrev pub without_item : ℕ → Tables → Tables
without_item id t = record t { items = without (λ x. nat_eq x.0 id) t.items }
