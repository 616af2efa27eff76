-- The text of a paragraph.
use Rattle.std.specs.Prelude.{ℕ, List, [], ◌∷◌, ◌++◌}
use Rattle.std.specs.List.{flat_map}
use Rattle.para.specs.Bytes.{Line}
use Rattle.para.specs.Field.{FieldValue}

-- what stands after the colon: a space and the first line of the value, or nothing if that line is empty
abbrev pub first_text : Line → List ℕ
first_text [] = []
first_text (b ∷ bs) = 32 ∷ b ∷ bs

-- a line that continues the value: a space and the line
abbrev pub more_text : Line → List ℕ
more_text line = 32 ∷ (line ++ 10 ∷ [])

-- the line of a name and the first line of its value
abbrev pub head_text : FieldValue → List ℕ
head_text f = f.name ++ (58 ∷ (first_text f.first ++ 10 ∷ []))

abbrev pub field_text : FieldValue → List ℕ
field_text f = head_text f ++ flat_map more_text f.more

abbrev pub paragraph_text : List FieldValue → List ℕ
paragraph_text p = flat_map field_text p
