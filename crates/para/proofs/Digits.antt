-- Texts of decimal digits: what each byte is worth, and what `parse` finds in front of them.
use Rattle.std.proofs.Common.{◌≡◌, ℕ, ◌+◌, ◌<◌, true, false, List, [], ◌∷◌, nat_eq, refl, arith}
use Rattle.std.proofs.lemmas.Bool.{and_parts}
use Rattle.std.proofs.lemmas.Bool.Decides.{nat_tests}
use Rattle.std.specs.Char.{is_ascii_digit, digit_value}
use Rattle.std.specs.List.{list_all}
use Rattle.std.specs.Str.Parse.{AllDigits, without_leading_plus}

pub digit_range : (c : ℕ) → is_ascii_digit c ≡ true → (digit_value c + 48 ≡ c) × (digit_value c < 10)
digit_range c h = (grind (arith, nat_tests), grind (arith, nat_tests))

pub all_digits : (bs : List ℕ) → list_all is_ascii_digit bs ≡ true → AllDigits 10 bs
all_digits [] h = tt
all_digits (c ∷ cs) h =
    let p = and_parts (is_ascii_digit c) (list_all is_ascii_digit cs) h in
    ((digit_range c p.0).1, all_digits cs p.1)

pub no_plus : (bs : List ℕ) → list_all is_ascii_digit bs ≡ true → without_leading_plus bs ≡ bs
no_plus [] h = refl
no_plus (c ∷ cs) h =
    let d = digit_range c (and_parts (is_ascii_digit c) (list_all is_ascii_digit cs) h).0 in
    let other : nat_eq c 43 ≡ false = grind (arith, nat_tests) in
    rw other refl
