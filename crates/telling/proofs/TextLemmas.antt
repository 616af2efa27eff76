-- Texts on some of a list, one after the other.
use Rattle.std.proofs.Common.{◌≡◌, ℕ, ◌+◌, ◌<◌, Bool, true, false, true≢false, ◌||◌, cond, List, [], ◌∷◌, ◌++◌, filter, get_or, length, take, refl, sym, ap, ◌∙◌, append_assoc, append-nil}
use Rattle.std.specs.List.{flat_map, list_any}
use Rattle.std.proofs.lemmas.List.{take_more}
use Rattle.std.proofs.lemmas.Grind.{flat_map-append}
use Rattle.std.proofs.lemmas.List.Elements.{filter-append}

module _ {E : Type 0} (p : E → Bool) (text : E → List ℕ) where
  abbrev texts : List E → List ℕ
  texts xs = flat_map text (filter p xs)

  none : (xs : List E) → list_any p xs ≡ false → filter p xs ≡ []
  none [] h = refl
  none (x ∷ xs) h = by (p x) h (none xs)
    where
      by : (b : Bool) → (b || list_any p xs) ≡ false → (list_any p xs ≡ false → filter p xs ≡ []) → cond b (x ∷ filter p xs) (filter p xs) ≡ []
      by true h rest = absurd (true≢false h)
      by false h rest = rest h

  -- none of a list is one of them
  pub texts_none : (xs : List E) → list_any p xs ≡ false → texts xs ≡ []
  texts_none xs h = ap (flat_map text) (none xs h)

  module _ (xs : List E) (i : ℕ) (x : E) (within : i < length xs) (at : x ≡ get_or xs i x) where
    chosen : (b : Bool) → p x ≡ b → filter p (take (i + 1) xs) ≡ filter p (take i xs) ++ cond b (x ∷ []) []
    chosen b is =
        ap (filter p) (take_more xs i x within ∙ ap (λ (y : E). take i xs ++ y ∷ []) (sym at))
        ∙ filter-append p (take i xs) (x ∷ [])
        ∙ ap (λ (c : Bool). filter p (take i xs) ++ cond c (x ∷ []) []) is

    -- with the text of the next of them
    pub texts_more : (before now new : List ℕ) → p x ≡ true → now ≡ before ++ texts (take i xs) → new ≡ now ++ text x → new ≡ before ++ texts (take (i + 1) xs)
    texts_more before now new is so_far pushed =
        pushed
        ∙ ap (λ (bs : List ℕ). bs ++ text x) so_far
        ∙ append_assoc before (texts (take i xs)) (text x)
        ∙ ap (λ (bs : List ℕ). before ++ (texts (take i xs) ++ bs)) (sym (append-nil (text x)))
        ∙ ap (λ (bs : List ℕ). before ++ bs) (sym (ap (flat_map text) (chosen true is) ∙ flat_map-append text (filter p (take i xs)) (x ∷ [])))

    -- if the next is not one of them
    pub texts_same : (before now : List ℕ) → p x ≡ false → now ≡ before ++ texts (take i xs) → now ≡ before ++ texts (take (i + 1) xs)
    texts_same before now is so_far =
        so_far ∙ ap (λ (es : List E). before ++ flat_map text es) (sym (chosen false is ∙ append-nil (filter p (take i xs))))
