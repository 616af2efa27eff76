use Rattle.std.proofs.Common.{◌≡◌, ℕ, ◌==◌, ◌||◌, ◌++◌, Bool, true, false, List, [], ◌∷◌, refl, ap, ◌∙◌}
use Rattle.std.specs.List.{list_any}
use Rattle.std.specs.Prelude.{if◌then◌else◌, codes}
use Rattle.pages.specs.Escapes.{escaped, escaped_byte, is_markup}
use Rattle.pages.proofs.escape.no_text_is_markup.Goals as goal

any-append : (xs ys : List ℕ) → list_any is_markup (xs ++ ys) ≡ (list_any is_markup xs || list_any is_markup ys)
any-append [] ys = refl
any-append (x ∷ xs) ys = ap (λ b. is_markup x || b) (any-append xs ys) ∙ or_assoc (is_markup x) (list_any is_markup xs) (list_any is_markup ys)
  where
    or_assoc : (a b c : Bool) → (a || (b || c)) ≡ ((a || b) || c)
    or_assoc true b c = refl
    or_assoc false b c = refl

byte_is_none : (c : ℕ) → list_any is_markup (escaped_byte c) ≡ false
unfolding escaped_byte
byte_is_none c = cases (c == 38) (c == 60) (c == 62) (c == 34) (c == 39) refl refl refl refl
  where
    cases : (amp lt gt quote apostrophe : Bool) → (c == 60) ≡ lt → (c == 62) ≡ gt → (c == 34) ≡ quote → (c == 39) ≡ apostrophe
        → list_any is_markup (if amp then codes "&amp;" else if lt then codes "&lt;" else if gt then codes "&gt;" else if quote then codes "&quot;" else if apostrophe then codes "&#39;" else c ∷ []) ≡ false
    cases true lt gt quote apostrophe p q r s = refl
    cases false true gt quote apostrophe p q r s = refl
    cases false false true quote apostrophe p q r s = refl
    cases false false false true apostrophe p q r s = refl
    cases false false false false true p q r s = refl
    cases false false false false false p q r s = rw p (rw q (rw r (rw s refl)))

none : (text : List ℕ) → list_any is_markup (escaped text) ≡ false
none [] = refl
none (c ∷ text) = any-append (escaped_byte c) (escaped text) ∙ (ap (λ b. b || list_any is_markup (escaped text)) (byte_is_none c) ∙ none text)

pub returns : goal.returns
returns c = none
