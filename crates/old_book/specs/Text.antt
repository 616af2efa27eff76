-- The text of a configuration without the fields that say for how many days something counts.
use Rattle.std.specs.Prelude.{ℕ, Bool, not, ◌||◌, List, [], ◌∷◌, ◌++◌, codes, filter, Option}
use Rattle.std.specs.List.{flat_map}
use Rattle.std.specs.Option.{option_map}
use Rattle.std.specs.Result.{result_ok}
use Rattle.std.specs.Str.{str_eq_ignore_ascii_case}
use Rattle.para.specs.Field.{FieldValue}
use Rattle.para.specs.Fields.{Fields, paragraphs_in}
use Rattle.para.specs.Printing.{paragraph_text}
use Rattle.rules.specs.Configuration.{config_limit}

-- the field is KeepDays or ValidDays, ASCII case ignored
unfoldable pub is_days_field : FieldValue → Bool
is_days_field f = str_eq_ignore_ascii_case f.name (codes "KeepDays") || str_eq_ignore_ascii_case f.name (codes "ValidDays")

-- the fields that are neither KeepDays nor ValidDays
abbrev pub other_fields : Fields → Fields
other_fields p = filter (λ f. not (is_days_field f)) p

-- a paragraph without these fields, and an empty line after it
abbrev pub other_text : Fields → List ℕ
other_text p = paragraph_text (other_fields p) ++ 10 ∷ []

-- The text of a configuration without the fields KeepDays and ValidDays: its paragraphs, printed.
unfoldable pub without_days : List ℕ → Option (List ℕ)
without_days text = option_map (flat_map other_text) (result_ok (paragraphs_in text config_limit))
