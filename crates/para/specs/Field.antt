-- Fields as values, without their places in memory.
use Rattle.std.specs.Prelude.{ℕ, List, map}
use Rattle.para.specs.declared.field.Field.{Field}

-- a field: its name, the first line of its value, and the lines that continue the value
pub record FieldValue : Type 0 where
  pub name : List ℕ
  pub first : List ℕ
  pub more : List (List ℕ)

abbrev pub field_value : Field → FieldValue
field_value f = record { name = f.name.now; first = f.first.now; more = map (λ l. l.now) f.more.items }

abbrev pub field_values : List Field → List FieldValue
field_values fs = map field_value fs
