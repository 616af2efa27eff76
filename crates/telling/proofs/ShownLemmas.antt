-- What is shown of a text, character by character.
use Rattle.std.proofs.Common.{◌≡◌, ℕ, List, ◌++◌, map, length, sym, ap, ◌∙◌, append_assoc, append-nil, IsUtf8}
use Rattle.std.specs.Char.{encode_utf8}
use Rattle.std.specs.Str.{chars, encode_utf8_all}
use Rattle.std.proofs.lemmas.List.{nil_from_length}
use Rattle.std.proofs.lemmas.Str.{chars-nil, chars_past_char}
use Rattle.telling.specs.Why.{shown_character, shown_text}

-- the next character
pub shown_on : (out new left rest all : List ℕ) (c : ℕ) → IsUtf8 rest → rest ≡ encode_utf8 c ++ left
    → new ≡ out ++ encode_utf8 (shown_character c) → out ++ shown_text rest ≡ all → new ++ shown_text left ≡ all
unfolding shown_text
shown_on out new left rest all c text split pushed so_far =
    ap (λ (bs : List ℕ). bs ++ shown_text left) pushed
    ∙ append_assoc out (encode_utf8 (shown_character c)) (shown_text left)
    ∙ ap (λ (cs : List ℕ). out ++ encode_utf8_all (map shown_character cs)) (sym (chars_past_char rest left c text split))
    ∙ so_far

-- nothing is left
pub shown_all : (out rest all : List ℕ) → length rest ≡ 0 → out ++ shown_text rest ≡ all → out ≡ all
unfolding shown_text
shown_all out rest all none so_far =
    sym (append-nil out)
    ∙ ap (λ (cs : List ℕ). out ++ encode_utf8_all (map shown_character cs)) (sym (ap chars (nil_from_length rest none) ∙ chars-nil))
    ∙ so_far
