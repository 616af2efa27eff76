-- What a text gives: its paragraphs, or its fault.
use Rattle.std.specs.Prelude.{ℕ, List, [], ◌∷◌, map, get_or, find, take_while, Option, Some, None, Result, Ok, Err, if◌then◌else◌}
use Rattle.std.specs.Str.{str_eq_ignore_ascii_case}
use Rattle.para.specs.declared.fault.ParaFault.{ParaFault}
use Rattle.para.specs.Bytes.{Line, begins_with_blank, name_part}
use Rattle.para.specs.Field.{FieldValue}
use Rattle.para.specs.Fault.{groups, many_fault, one_fault}
use Rattle.para.specs.Grammar.{lines}
use Rattle.para.specs.Reading.{tail, value_part, trimmed}

-- the fields of a paragraph, in their order
abbrev pub Fields : Type 0
Fields = List FieldValue

-- the field of that name, ASCII case ignored
abbrev pub field_named : List ℕ → Fields → Option FieldValue
field_named name p = find (λ f. str_eq_ignore_ascii_case f.name name) p

-- the field of a line that begins it, and of the lines after it that continue it
abbrev pub field_of : Line → List Line → FieldValue
field_of line behind = trimmed (record { name = name_part line; first = value_part line; more = map tail (take_while begins_with_blank behind) })

-- one field for each line that begins one
abbrev pub fields_of : List Line → Fields
fields_of [] = []
fields_of (line ∷ ls) = if begins_with_blank line then fields_of ls else field_of line ls ∷ fields_of ls

-- the fault, or the answer if there is no fault
abbrev pub unless_fault : {A : Type 0} → Option ParaFault → A → Result A ParaFault
unless_fault None answer = Ok answer
unless_fault (Some fault) answer = Err fault

-- the paragraphs of a text, one or more
unfoldable pub paragraphs_in : List ℕ → ℕ → Result (List Fields) ParaFault
paragraphs_in text limit = unless_fault (many_fault text limit) (map fields_of (groups (lines text)))

-- the fields of the one paragraph of a text
unfoldable pub fields_in : List ℕ → ℕ → Result Fields ParaFault
fields_in text limit = unless_fault (one_fault text limit) (get_or (map fields_of (groups (lines text))) 0 [])
