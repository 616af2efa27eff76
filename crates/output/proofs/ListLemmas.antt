-- Lists of which what passes is made into something.
use Rattle.std.proofs.Common.{◌≡◌, ◌<◌, ◌+◌, ℕ, List, [], ◌∷◌, ◌++◌, Bool, true, false, cond, map, filter, take, get_or, length, refl, sym, ap, ◌∙◌}
use Rattle.std.proofs.lemmas.List.{map-append, map_more}
use Rattle.std.proofs.lemmas.List.Elements.{filter-append}

-- what is made of one that passes, or of none
made_of : {A B : Type 0} (f : A → B) (b : Bool) (x : A) → cond b (f x ∷ []) [] ≡ map f (cond b (x ∷ []) [])
made_of f true x = refl
made_of f false x = refl

-- one more was looked at
pub one_more : {A B : Type 0} (f : A → B) (test : A → Bool) (xs : List A) (x : A)
    → map f (filter test xs) ++ cond (test x) (f x ∷ []) [] ≡ map f (filter test (xs ++ x ∷ []))
one_more f test xs x =
    (λ i. map f (filter test xs) ++ made_of f (test x) x i)
    ∙ sym (map-append f (filter test xs) (filter test (x ∷ [])))
    ∙ ap (map f) (sym (filter-append test xs (x ∷ [])))

-- one more of what others show was looked at
pub one_more_at : {A B C : Type 0} (f : A → B) (test : A → Bool) (view : C → A) (xs : List C) (i : ℕ) (x : C) → i < length xs
    → map f (filter test (map view (take i xs))) ++ cond (test (view (get_or xs i x))) (f (view (get_or xs i x)) ∷ []) []
    ≡ map f (filter test (map view (take (i + 1) xs)))
one_more_at {A = A} f test view xs i x h =
    let before = map view (take i xs) in
    let this = view (get_or xs i x) in
    (λ j. map f (filter test before) ++ passed (test this) this j)
    ∙ sym (map-append f (filter test before) (filter test (this ∷ [])))
    ∙ ap (map f) (sym (filter-append test before (this ∷ [])))
    ∙ ap (λ ys. map f (filter test ys)) (sym (map_more view xs i x h))
  where
    passed : (b : Bool) (y : A) → cond b (f y ∷ []) [] ≡ map f (cond b (y ∷ []) [])
    passed true y = refl
    passed false y = refl
