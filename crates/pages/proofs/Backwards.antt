-- What a loop over a list from its end has written.
use Rattle.std.proofs.Common.{◌≡◌, ℕ, ◌+◌, ◌-◌, ◌<◌, List, [], ◌∷◌, ◌++◌, length, drop, get_or, reverse, sym, ap, ◌∙◌, append_assoc, arith}
use Rattle.std.specs.List.{flat_map}
use Rattle.std.proofs.lemmas.List.{append-nil, drop_more, reverse-append}
use Rattle.std.proofs.lemmas.Grind.{flat_map-append}

module _ {X : Type 0} (text : X → List ℕ) where
  -- of a list with one more in front
  in_front : (xs : List X) (x : X) (out now new : List ℕ) → now ≡ out ++ flat_map text (reverse xs) → new ≡ now ++ text x
      → new ≡ out ++ flat_map text (reverse (x ∷ xs))
  in_front xs x out now new so behind =
      behind
      ∙ ap (λ (bs : List ℕ). bs ++ text x) so
      ∙ append_assoc out (flat_map text (reverse xs)) (text x)
      ∙ ap (λ (bs : List ℕ). out ++ bs)
      (ap (λ (bs : List ℕ). flat_map text (reverse xs) ++ bs) (sym (append-nil (text x)))
      ∙ sym (flat_map-append text (reverse xs) (x ∷ []))
      ∙ ap (flat_map text) (sym (reverse-append (x ∷ []) xs)))

  -- the list from one place earlier on
  earlier : (xs : List X) (left : ℕ) (x : X) → 0 < left → left - 1 < length xs → x ≡ get_or xs (left - 1) x
      → drop (left - 1) xs ≡ x ∷ drop left xs
  earlier xs left x some within is =
      let back : left - 1 + 1 ≡ left = omega arith in
      drop_more xs (left - 1) x within ∙ ap (λ y. y ∷ drop (left - 1 + 1) xs) (sym is) ∙ ap (λ i. x ∷ drop i xs) back

  -- one place earlier
  pub written_more : (xs : List X) (left : ℕ) (x : X) (out now new : List ℕ) → 0 < left → left - 1 < length xs → x ≡ get_or xs (left - 1) x
      → now ≡ out ++ flat_map text (reverse (drop left xs)) → new ≡ now ++ text x
      → new ≡ out ++ flat_map text (reverse (drop (left - 1) xs))
  written_more xs left x out now new some within is so behind =
      in_front (drop left xs) x out now new so behind
      ∙ ap (λ (ys : List X). out ++ flat_map text (reverse ys)) (sym (earlier xs left x some within is))
