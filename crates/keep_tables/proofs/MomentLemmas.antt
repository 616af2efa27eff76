-- Lists of what the reads find at a moment, one more at a time.
use Rattle.std.proofs.Common.{◌≡◌, ℕ, ◌+◌, ◌<◌, Bool, true, false, not, cond, if◌then◌else◌, List, [], ◌∷◌, filter, take, length, get_or, refl, sym, ap, ap₂, ◌∙◌}
use Rattle.std.proofs.lemmas.List.{length-append, take_more}
use Rattle.std.proofs.lemmas.List.Elements.{filter-append}

length_one : {X : Type 0} (b : Bool) (y : X) → length (cond b (y ∷ []) []) ≡ (if b then 1 else 0)
length_one true y = refl
length_one false y = refl

turned : (b : Bool) → ◌≡◌ {A = ℕ} (if b then 0 else 1) (if not b then 1 else 0)
turned true = refl
turned false = refl

-- how many do not pass a test, with one more
pub counted_more : {X : Type 0} (q : X → Bool) (xs : List X) (i : ℕ) (x : X) (count n : ℕ) → i < length xs → x ≡ get_or xs i x → count ≡ length (filter (λ y. not (q y)) (take i xs))
    → n ≡ (if q x then 0 else 1) → count + n ≡ length (filter (λ y. not (q y)) (take (i + 1) xs))
counted_more {X} q xs i x count n within is before one =
    let p = λ (y : X). not (q y) in
    ap₂ ◌+◌ before (one ∙ turned (q x) ∙ ap (λ y. if p y then 1 else 0) is ∙ sym (length_one (p (get_or xs i x)) (get_or xs i x)))
    ∙ sym (length-append (filter p (take i xs)) (filter p (get_or xs i x ∷ [])))
    ∙ ap length (sym (filter-append p (take i xs) (get_or xs i x ∷ [])) ∙ ap (filter p) (sym (take_more xs i x within)))
