-- What a reader has read.
use Rattle.std.specs.Prelude.{◌≡◌, ℕ, Bool, true, List, Result, Err, String}
use Rattle.std.specs.declared.alloc.Global.{Global}
use Rattle.std.specs.BTreeSet.{BTreeSet, contains_text}
use Rattle.std.specs.List.{list_any}
use Rattle.std.specs.Option.{option_map}
use Rattle.std.specs.Str.{str_eq_ignore_ascii_case, str_to_ascii_lowercase}
use Rattle.para.specs.declared.reader.Reader.{Reader}
use Rattle.para.specs.declared.fault.ParaFault.{ParaFault}
use Rattle.para.specs.declared.fault.ParaFault.TheVariants.{OutOfMemory}
use Rattle.para.specs.Field.{FieldValue, field_value, field_values}
use Rattle.para.specs.Reading.{State, names_of}

abbrev pub state : Reader → State
state r = record { done = r.paragraphs.items; fields = field_values r.fields.items; current = option_map field_value r.current }

-- the name is among these, ASCII case ignored
abbrev pub is_taken : List (List ℕ) → List ℕ → Bool
is_taken names name = list_any (λ n. str_eq_ignore_ascii_case n name) names

-- the set has these names, in lower case
abbrev pub AreLowered : BTreeSet (String Global) → List (List ℕ) → Type 0
AreLowered set names = (name : List ℕ) → contains_text set (str_to_ascii_lowercase name) ≡ is_taken names name

-- If the reader has many fields, the names that it keeps are those of the paragraph that did not end.
abbrev pub HasNames : Reader → Type 0
HasNames r = r.has_many ≡ true → AreLowered r.names (names_of (state r))

-- A refusal is for want of memory, or it is the one that the lines give.
abbrev pub IsRefused : ParaFault → Result (List (List FieldValue)) ParaFault → Type 0
IsRefused OutOfMemory read = Unit {0}
IsRefused e read = read ≡ Err e
