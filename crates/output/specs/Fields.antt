-- The fields of a configuration, and those that are passed over.
use Rattle.std.specs.Prelude.{ℕ, ◌+◌, Bool, not, ◌||◌, List, [], ◌∷◌, ◌++◌, map, filter, codes}
use Rattle.std.specs.Str.{str_eq_ignore_ascii_case}
use Rattle.para.specs.Field.{FieldValue}
use Rattle.para.specs.Fields.{Fields}

-- the name is that of a field of a configuration, ASCII case ignored
unfoldable pub is_known : List ℕ → Bool
is_known name =
    str_eq_ignore_ascii_case name (codes "Codename") || str_eq_ignore_ascii_case name (codes "Suite")
    || str_eq_ignore_ascii_case name (codes "Origin") || str_eq_ignore_ascii_case name (codes "Label")
    || str_eq_ignore_ascii_case name (codes "Description") || str_eq_ignore_ascii_case name (codes "Architectures")
    || str_eq_ignore_ascii_case name (codes "Components") || str_eq_ignore_ascii_case name (codes "AlsoAcceptFor")
    || str_eq_ignore_ascii_case name (codes "Uploaders") || str_eq_ignore_ascii_case name (codes "KeepDays")
    || str_eq_ignore_ascii_case name (codes "ValidDays") || str_eq_ignore_ascii_case name (codes "MaxFileSize")

-- the field is one that a configuration has
abbrev pub is_known_field : FieldValue → Bool
is_known_field f = is_known f.name

-- the field is passed over
abbrev pub is_unknown_field : FieldValue → Bool
is_unknown_field f = not (is_known f.name)

-- the fields of a paragraph that are passed over, each with the number of the paragraph
abbrev pub unknown_among : ℕ → Fields → List (ℕ × List ℕ)
unknown_among number p = map (λ f. (number, f.name)) (filter is_unknown_field p)

-- the fields of paragraphs that are passed over; the first paragraph has this number
abbrev pub unknown_behind : ℕ → List Fields → List (ℕ × List ℕ)
unknown_behind number [] = []
unknown_behind number (p ∷ ps) = unknown_among number p ++ unknown_behind (number + 1) ps
