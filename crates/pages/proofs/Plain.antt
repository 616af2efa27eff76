-- What escaping does to lists of bytes.
use Rattle.std.proofs.Common.{◌≡◌, ◌≢◌, ◌<◌, ℕ, ◌==◌, ◌&&◌, ◌++◌, not, Bool, true, false, List, [], ◌∷◌, length, get_or, suc, refl, sym, ap, ◌∙◌, append_assoc, arith}
use Rattle.std.specs.Char.{encode_utf8}
use Rattle.std.specs.List.{list_all}
use Rattle.std.proofs.lemmas.Bool.{and_parts}
use Rattle.std.proofs.lemmas.Bool.Decides.{nat_tests}
use Rattle.std.proofs.lemmas.Str.{inside_one, encode_ascii}
use Rattle.std.proofs.lemmas.List.{append-nil, nil_from_length}
use Rattle.std.proofs.lemmas.Grind.{flat_map-append}
use Rattle.pages.specs.Escapes.{escaped, escaped_byte, stands_for_itself}

-- a byte that stands for itself
abbrev pub IsPlain : ℕ → Type 0
IsPlain c = (c ≢ 38) × (c ≢ 60) × (c ≢ 62) × (c ≢ 34) × (c ≢ 39)

not_same : (c d : ℕ) → c ≢ d → (c == d) ≡ false
not_same c d h = grind (arith, nat_tests)

stays : (c : ℕ) → IsPlain c → escaped_byte c ≡ c ∷ []
unfolding escaped_byte
stays c h = rw (not_same c 38 h.0, not_same c 60 h.1, not_same c 62 h.2, not_same c 34 h.3, not_same c 39 h.4) refl

all_stay : (bs : List ℕ) → ((i : ℕ) → i < length bs → IsPlain (get_or bs i 0)) → escaped bs ≡ bs
all_stay [] h = refl
all_stay (b ∷ bs) h = rw (stays b (h 0 (omega arith)), all_stay bs (λ i within. h (suc i) (omega arith))) refl

-- a byte of which `stands_for_itself` is true
plain_byte : (c : ℕ) → stands_for_itself c ≡ true → IsPlain c
plain_byte c h =
    let ampersand = and_parts (not (c == 38)) _ h in
    let less = and_parts (not (c == 60)) _ ampersand.1 in
    let greater = and_parts (not (c == 62)) _ less.1 in
    let quotes = and_parts (not (c == 34)) (not (c == 39)) greater.1 in
    (apart 38 ampersand.0, apart 60 less.0, apart 62 greater.0, apart 34 quotes.0, apart 39 quotes.1)
  where
    apart : (d : ℕ) → not (c == d) ≡ true → c ≢ d
    apart d h = grind (arith, nat_tests)

-- a text of such bytes stands for itself
pub plain_stays : (text : List ℕ) → list_all stands_for_itself text ≡ true → escaped text ≡ text
plain_stays [] h = refl
plain_stays (b ∷ bs) h =
    let parts = and_parts (stands_for_itself b) (list_all stands_for_itself bs) h in
    rw (stays b (plain_byte b parts.0), plain_stays bs parts.1) refl

-- each byte of a character other than the five is none of the five
plain_at : (c : ℕ) → IsPlain c → (i : ℕ) → i < length (encode_utf8 c) → IsPlain (get_or (encode_utf8 c) i 0)
plain_at c h i within =
    (apart 38 (omega arith) h.0, apart 60 (omega arith) h.1, apart 62 (omega arith) h.2, apart 34 (omega arith) h.3, apart 39 (omega arith) h.4)
  where
    apart : (d : ℕ) → d < 128 → c ≢ d → get_or (encode_utf8 c) i 0 ≢ d
    apart d small h e = h (inside_one c [] (encode_utf8 c) i (sym (append-nil (encode_utf8 c))) within (omega (arith, e)) ∙ e)

-- a character other than the five stands for itself
pub character_stays : (c : ℕ) → IsPlain c → escaped (encode_utf8 c) ≡ encode_utf8 c
character_stays c h = all_stay (encode_utf8 c) (plain_at c h)

-- one of the five, which is ASCII
pub character_is : (c d : ℕ) → c ≡ d → d < 128 → escaped_byte d ≡ escaped (encode_utf8 c)
character_is c d e small =
    sym (ap (λ (x : ℕ). escaped (encode_utf8 x)) e ∙ ap escaped (encode_ascii d small) ∙ append-nil (escaped_byte d))

-- what a loop over the characters of a text has written and what is left, one character on
pub written_on : (out new piece left rest all : List ℕ) → new ≡ out ++ escaped piece → rest ≡ piece ++ left
    → out ++ escaped rest ≡ all → new ++ escaped left ≡ all
written_on out new piece left rest all e r h =
    ap (λ (bs : List ℕ). bs ++ escaped left) e
    ∙ append_assoc out (escaped piece) (escaped left)
    ∙ ap (λ (bs : List ℕ). out ++ bs) (sym (flat_map-append escaped_byte piece left) ∙ sym (ap escaped r))
    ∙ h

-- nothing is left
pub written_all : (out rest all : List ℕ) → length rest ≡ 0 → out ++ escaped rest ≡ all → out ≡ all
written_all out rest all none h =
    sym (append-nil out) ∙ ap (λ (bs : List ℕ). out ++ escaped bs) (sym (nil_from_length rest none)) ∙ h
