-- What `parse` answers at a text of digits, and whether that is a number of days.
use Rattle.std.proofs.Common.{◌≡◌, ℕ, ◌<◌, ◌≤◌, ◌^◌, ◌&&◌, true, false, List, length, ltb, leb, if◌then◌else◌, Option, Some, None, inl, inr, refl, ap, subst, arith}
use Rattle.std.proofs.lemmas.Bool.{cases_lt}
use Rattle.std.proofs.lemmas.Bool.Decides.{nat_tests}
use Rattle.std.specs.Char.{is_ascii_digit}
use Rattle.std.specs.List.{list_all}
use Rattle.std.specs.Str.Parse.{digits_value, IsNumeral, without_leading_plus}
use Rattle.sums.proofs.Digits.{all_digits, no_plus}
use Rattle.rules.specs.Days.{most_days}

-- the answer to a text of digits
abbrev answer : List ℕ → Option ℕ
answer bs = if ltb 0 (length bs) && leb (digits_value 10 bs) most_days then Some (digits_value 10 bs) else None

-- a number that does not fit a `u32` is not a number of days, and neither is a text without digits
pub no_days : (bs : List ℕ) → list_all is_ascii_digit bs ≡ true → (IsNumeral 10 (without_leading_plus bs) × (digits_value 10 (without_leading_plus bs) < 2 ^ 32) → ⊥) → None ≡ answer bs
no_days bs h p =
    let q = subst (λ (ds : List ℕ). IsNumeral 10 ds × (digits_value 10 ds < 2 ^ 32) → ⊥) (no_plus bs h) p in
    elim (cases_lt 0 (length bs)) [
      | inr none ↦ let e : ltb 0 (length bs) ≡ false = grind (arith, nat_tests) in rw e refl
      | inl some ↦ elim (cases_lt (digits_value 10 bs) (2 ^ 32)) [
        | inl lt ↦ absurd (q ((some, all_digits bs h), lt))
        | inr ge ↦
            let e : ltb 0 (length bs) ≡ true = grind (arith, nat_tests) in
            let f : leb (digits_value 10 bs) most_days ≡ false = grind (arith, nat_tests) in
            rw (e, f) refl
      ]
    ]

pub too_many : (n : ℕ) (bs : List ℕ) → list_all is_ascii_digit bs ≡ true
    → (IsNumeral 10 (without_leading_plus bs) × (digits_value 10 (without_leading_plus bs) < 2 ^ 32)) × (n ≡ digits_value 10 (without_leading_plus bs)) → most_days < n → None ≡ answer bs
too_many n bs h p many =
    let q = subst (λ (ds : List ℕ). (IsNumeral 10 ds × (digits_value 10 ds < 2 ^ 32)) × (n ≡ digits_value 10 ds)) (no_plus bs h) p in
    let some = q.0.0.0 in
    let same = q.1 in
    let e : ltb 0 (length bs) ≡ true = grind (arith, nat_tests) in
    let f : leb (digits_value 10 bs) most_days ≡ false = grind (arith, nat_tests) in
    rw (e, f) refl

pub some_days : (n : ℕ) (bs : List ℕ) → list_all is_ascii_digit bs ≡ true
    → (IsNumeral 10 (without_leading_plus bs) × (digits_value 10 (without_leading_plus bs) < 2 ^ 32)) × (n ≡ digits_value 10 (without_leading_plus bs)) → n ≤ most_days → Some n ≡ answer bs
some_days n bs h p few =
    let q = subst (λ (ds : List ℕ). (IsNumeral 10 ds × (digits_value 10 ds < 2 ^ 32)) × (n ≡ digits_value 10 ds)) (no_plus bs h) p in
    let some = q.0.0.0 in
    let same = q.1 in
    let e : ltb 0 (length bs) ≡ true = grind (arith, nat_tests) in
    let f : leb (digits_value 10 bs) most_days ≡ true = grind (arith, nat_tests) in
    rw (e, f) (ap Some q.1)
