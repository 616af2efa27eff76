-- An uploader line, `SOURCE by PERSON` (a rule of this archive).
use Rattle.std.specs.Prelude.{ℕ, ◌-◌, Bool, true, ◌&&◌, ◌||◌, not, if◌then◌else◌, List, [], ◌∷◌, length, take, drop, codes, nat_eq, Option, Some, None, is_some}
use Rattle.std.specs.Option.{option_map, option_and_then}
use Rattle.std.specs.List.{list_all, starts_with, ends_with, filter_map}
use Rattle.para.specs.Bytes.{is_nil, begins_with_blank}
use Rattle.records.specs.Names.{begins_with, is_lower_or_digit, is_package_byte, is_package_name}
use Rattle.rules.specs.declared.uploader.Rule.{Rule}
use Rattle.rules.specs.declared.uploader.SourcePattern.{SourcePattern}
use Rattle.rules.specs.declared.uploader.SourcePattern.TheVariants as pattern

-- the two parts of a line before and after its first ` by `, if it has one
abbrev pub divided : List ℕ → Option (List ℕ × List ℕ)
divided [] = None
divided (c ∷ rest) =
    if starts_with nat_eq (c ∷ rest) (codes " by ") then Some ([], drop 3 rest)
    else option_map (λ parts. (c ∷ parts.0, parts.1)) (divided rest)

-- what stands before a star at the end, if there is one
unfoldable pub before_star : List ℕ → Option (List ℕ)
before_star text = if ends_with nat_eq text (codes "*") then Some (take (length text - 1) text) else None

-- a front of source names
unfoldable pub is_front : List ℕ → Bool
is_front text = begins_with is_lower_or_digit text && list_all is_package_byte text

-- a star alone, a front of source names before a star, or a source name
abbrev pub is_pattern_by : Option (List ℕ) → List ℕ → Bool
is_pattern_by (Some []) text = true
is_pattern_by (Some (c ∷ cs)) text = is_front (c ∷ cs)
is_pattern_by None text = is_package_name text

unfoldable pub is_pattern : List ℕ → Bool
is_pattern text = is_pattern_by (before_star text) text

abbrev pub pattern_by : Option (List ℕ) → List ℕ → SourcePattern
pattern_by (Some []) text = pattern.Any
pattern_by (Some (c ∷ cs)) text = pattern.Front (c ∷ cs)
pattern_by None text = pattern.Name text

unfoldable pub pattern_of : List ℕ → SourcePattern
pattern_of text = pattern_by (before_star text) text

unfoldable pub ends_with_blank : List ℕ → Bool
ends_with_blank text = ends_with nat_eq text (codes " ") || ends_with nat_eq text (9 ∷ [])

-- one byte or more, and no blank at either end
unfoldable pub is_person : List ℕ → Bool
is_person text = not (is_nil text) && not (begins_with_blank text) && not (ends_with_blank text)

-- the two parts of a line that is an uploader line
unfoldable pub rule_parts : List ℕ → Option (List ℕ × List ℕ)
rule_parts line = option_and_then (λ parts. if is_pattern parts.0 && is_person parts.1 then Some parts else None) (divided line)

abbrev pub rule_of : List ℕ × List ℕ → Rule
rule_of parts = record { source = pattern_of parts.0; person = parts.1 }

abbrev pub is_rule_line : List ℕ → Bool
is_rule_line line = is_some (rule_parts line)

-- the rules of those lines that are uploader lines
abbrev pub rules_in : List (List ℕ) → List Rule
rules_in lines = filter_map (λ line. option_map rule_of (rule_parts line)) lines
