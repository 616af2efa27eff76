-- The grammar of control files (Debian Policy 5.1): which texts spell which paragraphs.
use Rattle.std.specs.Prelude.{◌≡◌, ◌≢◌, ℕ, false, IsTrue, List, [], ◌∷◌, ◌++◌, map, reverse}
use Rattle.std.specs.List.{slice_split, AllByRecursion, IsDistinct}
use Rattle.std.specs.Str.{IsUtf8, str_eq_ignore_ascii_case}
use Rattle.para.specs.Bytes.{Line, is_blank, is_newline, is_refused, is_name, is_empty, begins_with_blank, has_content}
use Rattle.para.specs.Field.{FieldValue}

-- The pieces between newlines. If the text ends in a newline, the last piece is empty, and an empty line spells nothing.
abbrev pub lines : List ℕ → List Line
lines text = slice_split is_newline text

abbrev pub AreBlanks : List ℕ → Type 0
AreBlanks bs = AllByRecursion (λ b. IsTrue (is_blank b)) bs

abbrev pub AreEmpty : List Line → Type 0
AreEmpty ls = AllByRecursion (λ l. IsTrue (is_empty l)) ls

-- the last of the lines of a value
abbrev pub last_line : Line → List Line → Line
last_line first [] = first
last_line first (line ∷ more) = last_line line more

-- A field as it is read: no value begins or ends with blanks, and no line that continues it holds only blanks.
pub record IsField (f : FieldValue) : Type 0 where
  pub name : IsTrue (is_name f.name)
  pub first : begins_with_blank f.first ≡ false
  pub more : AllByRecursion (λ l. IsTrue (has_content l)) f.more
  pub last : begins_with_blank (reverse (last_line f.first f.more)) ≡ false

-- A paragraph is one or more fields, no two of the same name, ASCII case ignored.
pub record IsParagraph (p : List FieldValue) : Type 0 where
  pub nonempty : p ≢ []
  pub fields : AllByRecursion IsField p
  pub distinct : IsDistinct str_eq_ignore_ascii_case (map (λ f. f.name) p)

-- the lines of a value, with blanks after the last
abbrev pub with_blanks : List ℕ → Line → List Line → List Line
with_blanks blanks first [] = (first ++ blanks) ∷ []
with_blanks blanks first (line ∷ more) = first ∷ with_blanks blanks line more

-- Each line is a blank and what it adds to the value.
abbrev pub SpellsMore : List Line → List Line → Type 0
SpellsMore [] [] = Unit {0}
SpellsMore [] (added ∷ more) = ⊥
SpellsMore (line ∷ ls) [] = ⊥
SpellsMore (line ∷ ls) (added ∷ more) = ((b : ℕ) × IsTrue (is_blank b) × (line ≡ b ∷ added)) × SpellsMore ls more

-- A name, a colon, any blanks and the first line of the value; then the lines that continue it.
abbrev pub SpellsValue : List Line → List ℕ → List Line → Type 0
SpellsValue (line ∷ ls) name (first ∷ more) = ((blanks : List ℕ) × AreBlanks blanks × (line ≡ name ++ 58 ∷ (blanks ++ first))) × SpellsMore ls more
SpellsValue [] name value = ⊥
SpellsValue (line ∷ ls) name [] = ⊥

-- Any blanks may stand at the end of the last line.
abbrev pub SpellsField : List Line → FieldValue → Type 0
SpellsField ls f = (blanks : List ℕ) × AreBlanks blanks × SpellsValue ls f.name (with_blanks blanks f.first f.more)

-- One field after the other.
abbrev pub SpellsFields : List Line → List FieldValue → Type 0
SpellsFields ls [] = ls ≡ []
SpellsFields ls (f ∷ fs) = (own : List Line) × (rest : List Line) × (ls ≡ own ++ rest) × SpellsField own f × SpellsFields rest fs

-- no line, or an empty one first
abbrev pub BeginsEmpty : List Line → Type 0
BeginsEmpty [] = Unit {0}
BeginsEmpty (line ∷ ls) = IsTrue (is_empty line)

-- Paragraphs with at least one empty line between two, and any number of them before, between and after.
abbrev pub SpellsParagraphs : List Line → List (List FieldValue) → Type 0
SpellsParagraphs ls [] = AreEmpty ls
SpellsParagraphs ls (p ∷ ps) = (gap : List Line) × (own : List Line) × (rest : List Line) × (ls ≡ gap ++ (own ++ rest)) × AreEmpty gap × SpellsFields own p × BeginsEmpty rest × SpellsParagraphs rest ps

-- The text spells these paragraphs.
pub record Spells (text : List ℕ) (ps : List (List FieldValue)) : Type 0 where
  pub utf8 : IsUtf8 text
  pub allowed : AllByRecursion (λ b. is_refused b ≡ false) text
  pub paragraphs : AllByRecursion IsParagraph ps
  pub spelled : SpellsParagraphs (lines text) ps
