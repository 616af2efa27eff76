-- Reading line by line, as the private functions do it.
use Rattle.std.specs.Prelude.{◌≡◌, MatchOption, ℕ, ◌+◌, List, [], ◌∷◌, ◌++◌, map, reverse, Option, Some, None, Result, Ok, Err, if◌then◌else◌}
use Rattle.std.specs.List.{after_first}
use Rattle.para.specs.declared.fault.ParaFault.{ParaFault}
use Rattle.para.specs.Bytes.{Line, is_blank, is_colon, is_nil, is_empty, begins_with_blank, name_part}
use Rattle.para.specs.Field.{FieldValue}
use Rattle.para.specs.Fault.{line_fault}
use Rattle.para.specs.Grammar.{lines}

-- without the blanks at the front
abbrev pub skip_blanks : Line → Line
skip_blanks [] = []
skip_blanks (b ∷ bs) = if is_blank b then skip_blanks bs else (b ∷ bs)

-- without the blanks at the end
abbrev pub trim_end : Line → Line
trim_end line = reverse (skip_blanks (reverse line))

abbrev pub tail : Line → Line
tail [] = []
tail (b ∷ bs) = bs

-- what stands after the colon, without the blanks at the front
abbrev pub value_part : Line → Line
value_part line = skip_blanks (after_first is_colon line)

abbrev pub trim_last : List Line → List Line
trim_last [] = []
trim_last (line ∷ []) = trim_end line ∷ []
trim_last (line ∷ next ∷ more) = line ∷ trim_last (next ∷ more)

-- the field, without the blanks at the end of its last line
abbrev pub trimmed : FieldValue → FieldValue
trimmed f = record { name = f.name; first = (if is_nil f.more then trim_end f.first else f.first); more = trim_last f.more }

-- What is read so far: the paragraphs that ended, then the fields that ended in the paragraph that did not, and the field that did not end.
pub record State : Type 0 where
  pub done : List (List FieldValue)
  pub fields : List FieldValue
  pub current : Option FieldValue

abbrev pub ended : List FieldValue → Option FieldValue → List FieldValue
ended fields None = fields
ended fields (Some f) = fields ++ trimmed f ∷ []

-- the paragraphs, then a paragraph of these fields if there are any
abbrev pub with_paragraph : List (List FieldValue) → List FieldValue → List (List FieldValue)
with_paragraph done [] = done
with_paragraph done (f ∷ fs) = done ++ (f ∷ fs) ∷ []

abbrev pub finished : State → List (List FieldValue)
finished s = with_paragraph s.done (ended s.fields s.current)

abbrev pub names_of : State → List (List ℕ)
names_of s = map (λ f. f.name) (ended s.fields s.current)

-- If no field is open, no field of the paragraph ended.
abbrev pub IsStarted : State → Type 0
IsStarted s = MatchOption s.current (s.fields ≡ []) (λ _. Unit {0})

abbrev pub continued : Line → Option FieldValue → Option FieldValue
continued added None = None
continued added (Some f) = Some (record f { more = f.more ++ added ∷ [] })

-- what is read after the field ends, and after the paragraph ends
abbrev pub after_field : State → State
after_field s = record { done = s.done; fields = ended s.fields s.current; current = None }

abbrev pub after_paragraph : State → State
after_paragraph s = record { done = finished s; fields = []; current = None }

-- what is read after a line without a fault
abbrev pub after_line : State → Line → State
after_line s line =
    if is_empty line then after_paragraph s
    else (if begins_with_blank line then record { done = s.done; fields = s.fields; current = continued (tail line) s.current }
    else record { done = s.done; fields = ended s.fields s.current; current = Some (record { name = name_part line; first = value_part line; more = [] }) })

abbrev pub unless : Option ParaFault → Result (List (List FieldValue)) ParaFault → Result (List (List FieldValue)) ParaFault
unless None read = read
unless (Some fault) read = Err fault

-- what lines give that stand after `count` other lines
abbrev pub reading : State → ℕ → List Line → Result (List (List FieldValue)) ParaFault
reading s count [] = Ok (finished s)
reading s count (line ∷ ls) = unless (line_fault (names_of s) (count + 1) line) (reading (after_line s line) (count + 1) ls)

abbrev pub start : State
start = record { done = []; fields = []; current = None }

-- the lines of what is left of a text, if anything is
abbrev pub lines_of : Option (List ℕ) → List Line
lines_of None = []
lines_of (Some text) = lines text
