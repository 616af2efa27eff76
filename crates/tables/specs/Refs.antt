-- What the statements on refs speak of.
use Rattle.std.specs.Prelude.{ℕ, Bool, nat_eq}
use Rattle.tables.specs.Rows.{Tables, without}
use Rattle.tables.specs.declared.rows.Ref.{Ref}

-- the file is one of this item
abbrev pub is_ref_of : ℕ → Ref → Bool
is_ref_of item x = nat_eq x.item item

-- the files of this item are gone
abbrev pub without_refs : ℕ → Tables → Tables
without_refs item t = record t { refs = without (λ x. is_ref_of item x.1) t.refs }
