-- Values of fields (Debian Policy 5.1).
use Rattle.std.specs.Prelude.{ℕ, not, List, ◌∷◌, filter, Option, Some, None, if◌then◌else◌}
use Rattle.std.specs.List.{slice_split, flat_map}
use Rattle.para.specs.Bytes.{Line, is_blank, is_nil, is_empty}
use Rattle.para.specs.Field.{FieldValue}

-- the line of a field with one line, else nothing
abbrev pub simple_value : FieldValue → Option (List ℕ)
simple_value f = if is_nil f.more then Some f.first else None

-- the pieces of a line between blanks
abbrev pub words : Line → List (List ℕ)
words line = filter (λ piece. not (is_empty piece)) (slice_split is_blank line)

-- the words of all its lines
abbrev pub folded_value : FieldValue → List (List ℕ)
folded_value f = flat_map words (f.first ∷ f.more)
