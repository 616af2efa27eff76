-- What is written of a path by the constant set is its address.
use Rattle.std.proofs.Common.{◌≡◌, ◌≤◌, inl, inr, ℕ, Bool, true, false, not, if◌then◌else◌, List, [], ◌∷◌, refl, arith}
use Rattle.std.proofs.lemmas.Bool.{agree_below, agree_below_at, cases_lt}
use Rattle.std.proofs.lemmas.Bool.Decides.{nat_tests}
use Rattle.std.specs.List.{flat_map}
use Rattle.percent_encoding.specs.AsciiSet.{should_percent_encode}
use Rattle.percent_encoding.specs.Percent.{percent_encode, percent_encode_byte}
use Rattle.pages.specs.Links.{address_byte, is_literal}
use Rattle.pages.specs.declared.link.TheConstants.{NUMBERED}

-- the bytes of ASCII, one by one
table : agree_below (should_percent_encode NUMBERED) (λ b. not (is_literal b)) 128 ≡ true
unfolding should_percent_encode
table = refl

-- no other byte stays as it is
beyond : (b : ℕ) → 128 ≤ b → should_percent_encode NUMBERED b ≡ not (is_literal b)
unfolding should_percent_encode
beyond b far = grind (arith, nat_tests)

is_numbered : (b : ℕ) → should_percent_encode NUMBERED b ≡ not (is_literal b)
is_numbered b = elim (cases_lt b 128) [
  | inl low ↦ agree_below_at (should_percent_encode NUMBERED) (λ c. not (is_literal c)) 128 b table low
  | inr far ↦ beyond b (omega (arith, far))
]

other_way : {X : Type 0} (kept : Bool) (x y : X) → (if not kept then x else y) ≡ (if kept then y else x)
other_way true x y = refl
other_way false x y = refl

pub percent_encode_is : (path : List ℕ) → percent_encode NUMBERED path ≡ flat_map address_byte path
unfolding percent_encode
percent_encode_is [] = refl
percent_encode_is (b ∷ bs) = rw (is_numbered b, other_way (is_literal b) (percent_encode_byte b) (b ∷ []), percent_encode_is bs) refl
