-- The texts of the items of a list that an index lists.
use Rattle.std.proofs.Common.{◌≡◌, ℕ, Bool, true, false, List, [], ◌∷◌, ◌++◌, filter, map, refl, sym, ap, ◌∙◌, if◌then◌else◌, append_assoc}
use Rattle.std.specs.List.{flat_map}
use Rattle.std.proofs.lemmas.List.{map-append, append-nil}
use Rattle.std.proofs.lemmas.Grind.{flat_map-append}
use Rattle.std.proofs.lemmas.List.Elements.{filter-append}

abbrev pub text_if : Bool → List ℕ → List ℕ
text_if listed text = if listed then text else []

module _ {X : Type 0} (test : X → Bool) (text : X → List ℕ) where
  single : (x : X) (b : Bool) → test x ≡ b → flat_map text (filter test (x ∷ [])) ≡ text_if b (text x)
  single x true e = rw e (append-nil (text x))
  single x false e = rw e refl

  -- what a loop over items has written, after one more
  pub listed_more : (xs : List X) (x : X) (old now new : List ℕ)
      → now ≡ old ++ flat_map text (filter test xs) → new ≡ now ++ text_if (test x) (text x)
      → new ≡ old ++ flat_map text (filter test (xs ++ x ∷ []))
  listed_more xs x old now new so behind =
      behind
      ∙ ap (λ (bs : List ℕ). bs ++ text_if (test x) (text x)) so
      ∙ append_assoc old (flat_map text (filter test xs)) (text_if (test x) (text x))
      ∙ ap (λ (bs : List ℕ). old ++ (flat_map text (filter test xs) ++ bs)) (sym (single x (test x) refl))
      ∙ ap (λ (bs : List ℕ). old ++ bs) (sym (flat_map-append text (filter test xs) (filter test (x ∷ []))))
      ∙ ap (λ (ys : List X). old ++ flat_map text ys) (sym (filter-append test xs (x ∷ [])))

-- one more has been shown, and stands at the front of what was left
pub shown_more : {A X : Type 0} (shows : A → X) (shown : List A) (x : A) (rest behind all : List X)
    → rest ≡ shows x ∷ behind → map shows shown ++ rest ≡ all → map shows (shown ++ x ∷ []) ++ behind ≡ all
shown_more shows shown x rest behind all e h =
    ap (λ (xs : List _). xs ++ behind) (map-append shows shown (x ∷ []))
    ∙ append_assoc (map shows shown) (shows x ∷ []) behind
    ∙ ap (λ (xs : List _). map shows shown ++ xs) (sym e) ∙ h

-- all have been shown
pub all_shown : {A X : Type 0} (shows : A → X) (shown : List A) (rest all : List X)
    → rest ≡ [] → map shows shown ++ rest ≡ all → map shows shown ≡ all
all_shown shows shown rest all e h = sym (append-nil (map shows shown)) ∙ ap (λ (xs : List _). map shows shown ++ xs) (sym e) ∙ h
