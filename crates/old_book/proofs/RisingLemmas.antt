-- Numbers that rise, as a test row by row says it.
use Rattle.std.proofs.Common.{◌≡◌, ◌<◌, ℕ, true, [], ◌∷◌, None, Some, refl, arith}
use Rattle.std.specs.List.{AllByRecursion}
use Rattle.std.proofs.lemmas.Bool.{and_parts, lt-ltb, ltb-true, and_from}
use Rattle.sqlite_keyed.proofs.ListLemmas.{all_weaker}
use Rattle.tables.specs.Rows.{Numbered, Rises, Tables}
use Rattle.old_book.specs.Rising.{is_rising, rise_behind}
use Rattle.old_book.specs.Copying.{AreRising}

module _ {X : Type 0} where
  rise_above : (k : ℕ) (xs : Numbered X) → rise_behind (Some k) xs ≡ true → AllByRecursion (λ x. k < x.0) xs × Rises xs
  rise_above k [] is = (tt, tt)
  rise_above k (x ∷ xs) is =
      let parts = and_parts _ _ is in
      let above : k < x.0 = ltb-true k x.0 parts.0 in
      let rest = rise_above x.0 xs parts.1 in
      ((above, all_weaker (λ y. x.0 < y.0) (λ y. k < y.0) (λ y h. omega (arith, above, h)) xs rest.0), rest)

  above_rise : (k : ℕ) (xs : Numbered X) → AllByRecursion (λ x. k < x.0) xs → Rises xs → rise_behind (Some k) xs ≡ true
  above_rise k [] above up = refl
  above_rise k (x ∷ xs) above up = rw (lt-ltb k x.0 above.0) (above_rise x.0 xs up.0 up.1)

  rise_if : (xs : Numbered X) → rise_behind None xs ≡ true → Rises xs
  rise_if [] is = tt
  rise_if (x ∷ xs) is = rise_above x.0 xs is

  if_rise : (xs : Numbered X) → Rises xs → rise_behind None xs ≡ true
  if_rise [] up = refl
  if_rise (x ∷ xs) up = above_rise x.0 xs up.0 up.1

pub rising_if : (t : Tables) → is_rising t ≡ true → AreRising t
rising_if t is =
    let last = and_parts _ _ is in
    let first = and_parts _ _ last.0 in
    record { bodies = rise_if t.bodies first.0; uploads = rise_if t.uploads first.1; items = rise_if t.items last.1 }

pub if_rising : (t : Tables) → AreRising t → is_rising t ≡ true
if_rising t up = and_from _ _ (and_from _ _ (if_rise t.bodies up.bodies) (if_rise t.uploads up.uploads)) (if_rise t.items up.items)
