-- What holds of each element of a list holds of those that a test keeps, and of one more beside them.
use Rattle.std.proofs.Common.{◌≡◌, ℕ, ◌+◌, ◌<◌, Bool, true, false, cond, List, [], ◌∷◌, ◌++◌, All, filter, get_or, length, take, zip, refl, sym, ap, ◌∙◌, arith}
use Rattle.std.specs.List.{AllByRecursion}
use Rattle.std.proofs.lemmas.List.{length-take-le, take_more}
use Rattle.std.proofs.lemmas.List.Elements.{All-push, All-same}
use Rattle.sums.specs.declared.entries.Entry.{Entry}

all_cond : {X : Type 0} (P : X → Type 0) (b : Bool) (x : X) (xs : List X) → P x → AllByRecursion P xs → AllByRecursion P (cond b (x ∷ xs) xs)
all_cond P true x xs h hs = (h, hs)
all_cond P false x xs h hs = hs

pub all_filter : {X : Type 0} (P : X → Type 0) (p : X → Bool) (xs : List X) → AllByRecursion P xs → AllByRecursion P (filter p xs)
all_filter P p [] h = tt
all_filter P p (x ∷ xs) h = all_cond P (p x) x (filter p xs) h.0 (all_filter P p xs h.1)

zip_push : {X Y : Type 0} (xs : List X) (ys : List Y) (x : X) (y : Y) → length xs ≡ length ys → zip (xs ++ x ∷ []) (ys ++ y ∷ []) ≡ zip xs ys ++ (x, y) ∷ []
zip_push [] [] x y same = refl
zip_push [] (b ∷ ys) x y same = absurd (omega (arith, same))
zip_push (a ∷ xs) [] x y same = absurd (omega (arith, same))
zip_push (a ∷ xs) (b ∷ ys) x y same = ap (λ zs. (a, b) ∷ zs) (zip_push xs ys x y (let tail : length xs ≡ length ys = omega (arith, same) in tail))

-- one more text, of the next entry
pub texts_more : (P : Entry × List ℕ → Type 0) (entries : List Entry) (texts : List (List ℕ)) (i : ℕ) (e : Entry) (text : List ℕ) {now : List (List ℕ)}
    → length texts ≡ i → i < length entries → e ≡ get_or entries i e → now ≡ texts ++ text ∷ []
    → All P (zip (take i entries) texts) → P (e, text) → All P (zip (take (i + 1) entries) now)
texts_more P entries texts i e text {now} count within is pushed so_far one =
    All-same P (zip (take (i + 1) entries) now) (zip (take i entries) texts ++ (e, text) ∷ [])
    (ap (zip (take (i + 1) entries)) pushed
    ∙ ap (λ es. zip es (texts ++ text ∷ [])) (take_more entries i e within ∙ ap (λ x. take i entries ++ x ∷ []) (sym is))
    ∙ zip_push (take i entries) texts e text (length-take-le i entries (omega (arith, within)) ∙ sym count))
    (All-push P (zip (take i entries) texts) (e, text) so_far one)
