-- A size and what its text is.
use Rattle.std.proofs.Common.{inl, inr, ◌≡◌, ℕ, ◌+◌, ◌<◌, ◌≤◌, ◌^◌, ◌||◌, min, true, false, not, List, [], ◌∷◌, length, get_or, eqb, ltb, leb, Result, Ok, refl, arith, rules}
use Rattle.std.proofs.lemmas.Str.Parse.{IsNumeralModel, parse_gives}
use Rattle.std.proofs.lemmas.Bool.Decides.{nat_tests}
use Rattle.std.proofs.lemmas.Bool.{cases_lt}
use Rattle.std.proofs.lemmas.Fmt.{decimal-digits_value, decimal_is_IsNumeral, decimal_digit, first_decimal}
use Rattle.std.specs.Char.{is_ascii_digit, digit_value}
use Rattle.std.specs.Fmt.{decimal}
use Rattle.std.specs.List.{list_all}
use Rattle.std.specs.Str.Parse.{digits_value, AllDigits, ParsesUnsigned}
use Rattle.sums.specs.Lines.{is_size, greatest_size}
use Rattle.sums.proofs.Digits.{all_digits}
use Rattle.sums.proofs.Booleans.{both, or_true}

-- what a size's text is
pub record IsSizeText (most : ℕ) (text : List ℕ) : Type 0 where
  pub some : 0 < length text
  pub digits : list_all is_ascii_digit text ≡ true
  pub leading : get_or text 0 0 ≡ 48 → length text ≡ 1
  pub small : digits_value 10 text ≤ min most greatest_size

pub size_text : (most : ℕ) (text : List ℕ) → is_size most text ≡ true → IsSizeText most text
size_text most text h =
    let abc_d = both _ (leb (digits_value 10 text) (min most greatest_size)) h in
    let ab_c = both _ (eqb (length text) 1 || not (eqb (get_or text 0 0) 48)) abc_d.0 in
    let a_b = both (ltb 0 (length text)) (list_all is_ascii_digit text) ab_c.0 in
    let a = a_b.0 in
    let d = abc_d.1 in
    let c = ab_c.1 in
    record { some = grind (arith, nat_tests); digits = a_b.1; leading = λ e. grind (arith, nat_tests); small = grind (arith, nat_tests) }

own : IsNumeralModel (AllDigits 10) (digits_value 10)
own = search rules

pub size_written : (most : ℕ) (text : List ℕ) → is_size most text ≡ true → decimal (digits_value 10 text) ≡ text
size_written most text h =
    let t = size_text most text h in
    let small = t.small in
    decimal-digits_value own text (all_digits text t.digits) t.some t.leading (omega arith)

-- a size parses
pub size_parsed : {E : Type 0} (most : ℕ) (text : List ℕ) (r : Result ℕ E) → is_size most text ≡ true → ParsesUnsigned 64 10 text r → r ≡ Ok (digits_value 10 text)
size_parsed most text r h p =
    let t = size_text most text h in
    let small = t.small in
    parse_gives own 64 text r p (all_digits text t.digits) t.some (omega arith)

-- ---- the text of a size

digit_of : (c : ℕ) → digit_value c < 10 → is_ascii_digit c ≡ true
digit_of c h = grind (arith, nat_tests)

are_digits : (bs : List ℕ) → AllDigits 10 bs → list_all is_ascii_digit bs ≡ true
are_digits [] h = refl
are_digits (c ∷ cs) h = rw (digit_of c h.0) (are_digits cs h.1)

unled : (n : ℕ) → n < 2 ^ 64 → (eqb (length (decimal n)) 1 || not (eqb (get_or (decimal n) 0 0) 48)) ≡ true
unled n h = elim (cases_lt 0 n) [
  | inl some ↦
      let first = first_decimal n some h in
      let other : eqb (get_or (decimal n) 0 0) 48 ≡ false = grind (arith, nat_tests) in
      rw other (or_true (eqb (length (decimal n)) 1))
  | inr none ↦
      let zero_text : decimal n ≡ (48 + n) ∷ [] = decimal_digit n (omega arith) in
      rw zero_text refl
]

pub size_decimal : (most n : ℕ) → n ≤ min most greatest_size → (is_size most (decimal n) ≡ true) × (digits_value 10 (decimal n) ≡ n)
size_decimal most n h =
    let small : n < 2 ^ 64 = omega arith in
    let text = decimal_is_IsNumeral n small in
    let long = text.0.0 in
    let some : ltb 0 (length (decimal n)) ≡ true = grind (arith, nat_tests) in
    let value = text.1 in
    let bounded : leb (digits_value 10 (decimal n)) (min most greatest_size) ≡ true = grind (arith, nat_tests) in
    (rw (some, are_digits (decimal n) text.0.1, unled n small, bounded) refl, value)

-- a size with one limit is one with another that is not less
pub size_more : (most more : ℕ) (text : List ℕ) → min most greatest_size ≤ min more greatest_size → is_size most text ≡ true → is_size more text ≡ true
size_more most more text h is =
    let parts = both _ (leb (digits_value 10 text) (min most greatest_size)) is in
    let small = (size_text most text is).small in
    let bounded : leb (digits_value 10 text) (min more greatest_size) ≡ true = grind (arith, nat_tests) in
    rw (parts.0, bounded) refl
