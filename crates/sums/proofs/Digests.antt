-- A digest and its text.
use Rattle.std.proofs.Common.{◌≡◌, ℕ, zero, suc, ◌+◌, ◌*◌, ◌-◌, ◌/◌, ◌%◌, ◌<◌, Bool, true, false, cond, List, [], ◌∷◌, length, get_or, eqb, ltb, Some, Ok, refl, sym, ap, subst, ◌∙◌, arith}
use Rattle.std.proofs.lemmas.Bool.Decides.{nat_tests}
use Rattle.std.proofs.Common.{eqb-true}
use Rattle.std.proofs.lemmas.List.Folds.{list_all_at}
use Rattle.std.proofs.lemmas.List.FromFn.{get_or-range_with_len}
use Rattle.std.specs.List.{list_all, range_with_len}
use Rattle.hex.specs.Hex.{encode_lower, encode_with, lower_digits, decode_pairs, decode_sized, hex_digit_value}
use Rattle.sums.specs.Lines.{is_lower_hex, is_digest}
use Rattle.std.specs.Prelude.{All}
use Rattle.sums.specs.Lists.{hex_value, unhexed, IsDigest}
use Rattle.sums.proofs.Booleans.{both}

-- the value of a lower-case digit
abbrev value : ℕ → ℕ
value c = cond (ltb c 58) (c - 48) (c - 87)

-- the sixteen digits, by their values
glyph_test : list_all (λ v. eqb (get_or lower_digits v 0) (cond (ltb v 10) (48 + v) (87 + v))) (range_with_len 0 16) ≡ true
glyph_test = refl

glyph : (v : ℕ) → v < 16 → get_or lower_digits v 0 ≡ cond (ltb v 10) (48 + v) (87 + v)
glyph v h = by_test (tests (get_or (range_with_len 0 16) v 0)) refl
  where
    tests : ℕ → Bool
    tests w = eqb (get_or lower_digits w 0) (cond (ltb w 10) (48 + w) (87 + w))

    place : get_or (range_with_len 0 16) v 0 ≡ v
    place = get_or-range_with_len 0 16 v 0 h ∙ omega arith

    by_test : (b : Bool) → tests (get_or (range_with_len 0 16) v 0) ≡ b → get_or lower_digits v 0 ≡ cond (ltb v 10) (48 + v) (87 + v)
    by_test true e = eqb-true _ _ (subst (λ (w : ℕ). eqb (get_or lower_digits w 0) (cond (ltb w 10) (48 + w) (87 + w)) ≡ true) place e)
    by_test false e = cc (sym (list_all_at (λ w. eqb (get_or lower_digits w 0) (cond (ltb w 10) (48 + w) (87 + w))) (range_with_len 0 16) v 0 h e) ∙ glyph_test)

value_small : (c : ℕ) → is_lower_hex c ≡ true → value c < 16
value_small c h = grind (arith, nat_tests)

hex_value_is : (c : ℕ) → is_lower_hex c ≡ true → hex_digit_value c ≡ Some (value c)
hex_value_is c h = grind (arith, nat_tests)

glyph_back : (c : ℕ) → is_lower_hex c ≡ true → cond (ltb (value c) 10) (48 + value c) (87 + value c) ≡ c
glyph_back c h = grind (arith, nat_tests)

digit_value_is : (c : ℕ) → is_lower_hex c ≡ true → (hex_digit_value c ≡ Some (value c)) × (value c < 16) × (get_or lower_digits (value c) 0 ≡ c)
digit_value_is c h =
    let small : value c < 16 = value_small c h in
    (hex_value_is c h, small, glyph (value c) small ∙ glyph_back c h)

-- what two digits write
pair : (a b : ℕ) → is_lower_hex a ≡ true → is_lower_hex b ≡ true → 16 * hex_value a + hex_value b ≡ value a * 16 + value b
pair a b h k = grind (arith, nat_tests)

-- pairs of lower-case digits are read as the bytes that they write
pairs_read : (i n : ℕ) (text : List ℕ) → length text ≡ 2 * n → list_all is_lower_hex text ≡ true → decode_pairs i text ≡ Ok (unhexed text)
unfolding decode_pairs
pairs_read i n [] e h = refl
pairs_read i n (a ∷ []) e h = absurd (omega arith)
pairs_read i zero (a ∷ b ∷ rest) e h = absurd (omega arith)
pairs_read i (suc n) (a ∷ b ∷ rest) e h =
    let first = both (is_lower_hex a) (list_all is_lower_hex (b ∷ rest)) h in
    let second = both (is_lower_hex b) (list_all is_lower_hex rest) first.1 in
    let behind = pairs_read (i + 2) n rest (omega arith) second.1 in
    rw (hex_value_is a first.0, hex_value_is b second.0, behind, pair a b first.0 second.0) refl

-- a digest's text is read as the bytes that it writes
pub digest_read : (n : ℕ) (text : List ℕ) → is_digest n text ≡ true → decode_sized text n ≡ Ok (unhexed text)
digest_read n text h =
    let parts = both (eqb (length text) (2 * n)) (list_all is_lower_hex text) h in
    let long : length text ≡ 2 * n = eqb-true _ _ parts.0 in
    let even : eqb (length text % 2) 1 ≡ false = grind (arith, nat_tests) in
    let half : eqb (length text / 2) n ≡ true = grind (arith, nat_tests) in
    rw (even, half) (pairs_read 0 n text long parts.1)

-- the text of a digest is the text of the bytes that it writes
texts_back : (n : ℕ) (text : List ℕ) → length text ≡ 2 * n → list_all is_lower_hex text ≡ true → encode_lower (unhexed text) ≡ text
unfolding encode_with
texts_back n [] e h = refl
texts_back n (a ∷ []) e h = absurd (omega arith)
texts_back zero (a ∷ b ∷ rest) e h = absurd (omega arith)
texts_back (suc n) (a ∷ b ∷ rest) e h =
    let first = both (is_lower_hex a) (list_all is_lower_hex (b ∷ rest)) h in
    let second = both (is_lower_hex b) (list_all is_lower_hex rest) first.1 in
    let high = digit_value_is a first.0 in
    let low = digit_value_is b second.0 in
    let behind = texts_back n rest (omega arith) second.1 in
    let same = pair a b first.0 second.0 in
    let quotient : (16 * hex_value a + hex_value b) / 16 ≡ value a = omega (arith, low.1) in
    let remainder : (16 * hex_value a + hex_value b) % 16 ≡ value b = omega (arith, low.1) in
    (λ j. get_or lower_digits (quotient j) 0 ∷ get_or lower_digits (remainder j) 0 ∷ behind j) ∙ (λ j. high.2 j ∷ low.2 j ∷ rest)

pub digest_text : (n : ℕ) (text : List ℕ) → is_digest n text ≡ true → encode_lower (unhexed text) ≡ text
digest_text n text h =
    let parts = both (eqb (length text) (2 * n)) (list_all is_lower_hex text) h in
    texts_back n text (eqb-true _ _ parts.0) parts.1

-- ---- from bytes to their text

glyph_is_hex : (v : ℕ) → v < 16 → is_lower_hex (get_or lower_digits v 0) ≡ true
glyph_is_hex v h = rw (glyph v h) (by_cond v h)
  where
    by_cond : (v : ℕ) → v < 16 → is_lower_hex (cond (ltb v 10) (48 + v) (87 + v)) ≡ true
    by_cond v h = grind (arith, nat_tests)

glyph_value : (v : ℕ) → v < 16 → hex_value (get_or lower_digits v 0) ≡ v
glyph_value v h = ap hex_value (glyph v h) ∙ by_cond v h
  where
    by_cond : (v : ℕ) → v < 16 → hex_value (cond (ltb v 10) (48 + v) (87 + v)) ≡ v
    by_cond v h = grind (arith, nat_tests)

length-encoded : (bs : List ℕ) → length (encode_lower bs) ≡ 2 * length bs
unfolding encode_with
length-encoded [] = refl
length-encoded (b ∷ bs) = let more = length-encoded bs in omega arith

all_hex : (bs : List ℕ) → All (λ b. b < 256) bs → list_all is_lower_hex (encode_lower bs) ≡ true
unfolding encode_with
all_hex [] h = refl
all_hex (b ∷ bs) h =
    let small : b < 256 = h 0 0 (omega arith) in
    rw (glyph_is_hex (b / 16) (omega arith), glyph_is_hex (b % 16) (omega arith)) (all_hex bs (λ k d l. h (suc k) d (omega arith)))

-- the text of a digest reads as its bytes
bytes_back : (bs : List ℕ) → All (λ b. b < 256) bs → unhexed (encode_lower bs) ≡ bs
unfolding encode_with
bytes_back [] h = refl
bytes_back (b ∷ bs) h =
    let small : b < 256 = h 0 0 (omega arith) in
    let high = glyph_value (b / 16) (omega arith) in
    let low = glyph_value (b % 16) (omega arith) in
    let more = bytes_back bs (λ k d l. h (suc k) d (omega arith)) in
    let same : 16 * (b / 16) + b % 16 ≡ b = omega arith in
    (λ j. (16 * high j + low j) ∷ more j) ∙ (λ j. same j ∷ bs)

pub digest_encoded : (n : ℕ) (bs : List ℕ) → IsDigest n bs → is_digest n (encode_lower bs) ≡ true
digest_encoded n bs h =
    let long = length-encoded bs in
    let count = h.length in
    let e : eqb (length (encode_lower bs)) (2 * n) ≡ true = grind (arith, nat_tests) in
    rw (e, all_hex bs h.bytes) refl

pub digest_back : (n : ℕ) (bs : List ℕ) → IsDigest n bs → unhexed (encode_lower bs) ≡ bs
digest_back n bs h = bytes_back bs h.bytes

-- ---- what a text reads as is a digest

value_bound : (a b : ℕ) → is_lower_hex a ≡ true → is_lower_hex b ≡ true → 16 * hex_value a + hex_value b < 256
value_bound a b h k = grind (arith, nat_tests)

unhexed_digest : (n : ℕ) (text : List ℕ) → length text ≡ 2 * n → list_all is_lower_hex text ≡ true → IsDigest n (unhexed text)
unhexed_digest zero [] e h = record { length = refl; bytes = λ k d l. absurd (omega arith) }
unhexed_digest (suc n) [] e h = absurd (omega arith)
unhexed_digest n (a ∷ []) e h = absurd (omega arith)
unhexed_digest zero (a ∷ b ∷ rest) e h = absurd (omega arith)
unhexed_digest (suc n) (a ∷ b ∷ rest) e h =
    let first = both (is_lower_hex a) (list_all is_lower_hex (b ∷ rest)) h in
    let second = both (is_lower_hex b) (list_all is_lower_hex rest) first.1 in
    let more = unhexed_digest n rest (omega arith) second.1 in
    let count = more.length in
    record { length = omega arith; bytes = onto (16 * hex_value a + hex_value b) (unhexed rest) (value_bound a b first.0 second.0) more.bytes }
  where
    onto : (x : ℕ) (xs : List ℕ) → x < 256 → All (λ b. b < 256) xs → All (λ b. b < 256) (x ∷ xs)
    onto x xs h more zero d l = h
    onto x xs h more (suc k) d l = more k d (omega arith)

pub digest_is : (n : ℕ) (text : List ℕ) → is_digest n text ≡ true → IsDigest n (unhexed text)
digest_is n text h =
    let parts = both (eqb (length text) (2 * n)) (list_all is_lower_hex text) h in
    unhexed_digest n text (eqb-true _ _ parts.0) parts.1
