-- The two texts of figures: Prometheus' text format, version 0.0.4, and the lines of `archive status`.
use Rattle.std.specs.Prelude.{ℕ, Bool, ◌==◌, ◌||◌, not, List, [], ◌++◌, codes, Option, Some, None}
use Rattle.std.specs.Fmt.{decimal}
use Rattle.std.specs.List.{flat_map, list_all}
use Rattle.figures.specs.Families.{name_of, help_of, type_of, label_of, word_of}
use Rattle.figures.specs.declared.family.Figure.{Figure}
use Rattle.figures.specs.declared.family.Family.{Family}
use Rattle.figures.specs.declared.family.Sample.{Sample}

-- ---- Prometheus' text format

-- a byte that stands escaped in the value of a label: the backslash, the quote or the newline
abbrev pub needs_escape : ℕ → Bool
needs_escape b = (b == 92) || ((b == 34) || (b == 10))

-- no byte of the text needs an escape
abbrev pub stands_for_itself : List ℕ → Bool
stands_for_itself text = list_all (λ b. not (needs_escape b)) text

-- a label in braces, with its value in quotes; nothing if there is no value. No value here needs an escape.
unfoldable pub label_text : List ℕ → Option (List ℕ) → List ℕ
label_text label None = []
label_text label (Some value) = codes "{" ++ label ++ codes "=\"" ++ value ++ codes "\"}"

-- the line of a number
unfoldable pub sample_text : Figure → Sample → List ℕ
sample_text f s = name_of f ++ label_text (label_of f) s.label ++ codes " " ++ decimal s.number ++ codes "\n"

-- a comment about a figure, which begins with its name
unfoldable pub comment_text : List ℕ → Figure → List ℕ → List ℕ
comment_text front f text = front ++ name_of f ++ codes " " ++ text ++ codes "\n"

-- what the figure says, its type, and its numbers
unfoldable pub family_text : Family → List ℕ
family_text f =
    comment_text (codes "# HELP ") f.figure (help_of f.figure)
    ++ comment_text (codes "# TYPE ") f.figure (type_of f.figure)
    ++ flat_map (sample_text f.figure) f.samples

-- all families
abbrev pub metrics_text : List Family → List ℕ
metrics_text families = flat_map family_text families

-- ---- the lines of `archive status`

-- a space and the value of a label; nothing if there is no value
unfoldable pub value_text : Option (List ℕ) → List ℕ
value_text None = []
value_text (Some value) = codes " " ++ value

-- the line of a number: the figure's word, the value of the label, the number
unfoldable pub status_line : Figure → Sample → List ℕ
status_line f s = word_of f ++ value_text s.label ++ codes " " ++ decimal s.number ++ codes "\n"

-- the lines of a family
unfoldable pub status_lines : Family → List ℕ
status_lines f = flat_map (status_line f.figure) f.samples

-- all lines
abbrev pub status_text : List Family → List ℕ
status_text families = flat_map status_lines families
