-- The files of an upload with their texts, as far as they have been taken.
use Rattle.std.proofs.Common.{◌≡◌, ℕ, ◌+◌, ◌<◌, Bool, true, false, cond, List, [], ◌∷◌, ◌++◌, map, length, take, get_or, refl, sym, ap, ◌∙◌, arith}
use Rattle.std.proofs.lemmas.List.{take_all, map-append, length_push}
use Rattle.std.proofs.lemmas.List.Elements.{filter_more}
use Rattle.std.proofs.lemmas.Slice.Zip.{length-zip, get_or-zip}
use Rattle.std.specs.List.{filter, zip}
use Rattle.sums.specs.declared.entries.Entry.{Entry}
use Rattle.suites.specs.Upload.{UploadValue, Part, has_suffix, parts_with}

one_more : {X Y : Type 0} (q : X → Bool) (all : List X) (ys : List Y) (y : Y) (x : X) (b : Bool) → length ys < length all → get_or all (length ys) x ≡ x → q x ≡ b
    → filter q (take (length (ys ++ y ∷ [])) all) ≡ filter q (take (length ys) all) ++ cond b (x ∷ []) []
one_more q all ys y x b less here e =
    ap (λ n. filter q (take n all)) (length_push ys y) ∙ filter_more q all (length ys) x less
    ∙ ap (λ z. filter q (take (length ys) all) ++ cond (q z) (z ∷ []) []) here
    ∙ ap (λ t. filter q (take (length ys) all) ++ cond t (x ∷ []) []) e

append_none : {X : Type 0} (xs : List X) → xs ++ [] ≡ xs
append_none [] = refl
append_none (x ∷ xs) = ap (λ ys. x ∷ ys) (append_none xs)

module _ {P X Y : Type 0} (view : P → X) (q : X → Bool) (all : List X) (ys : List Y) (y : Y) (x : X) where
  pub taken : (items more : List P) (part : P) → map view items ≡ filter q (take (length ys) all) → length ys < length all → get_or all (length ys) x ≡ x
      → q x ≡ true → more ≡ items ++ part ∷ [] → view part ≡ x → map view more ≡ filter q (take (length (ys ++ y ∷ [])) all)
  taken items more part known less here passes pushed shown =
      ap (map view) pushed ∙ map-append view items (part ∷ []) ∙ ap (λ zs. zs ++ view part ∷ []) known ∙ ap (λ z. filter q (take (length ys) all) ++ z ∷ []) shown
      ∙ sym (one_more q all ys y x true less here passes)

  pub left_out : (items : List P) → map view items ≡ filter q (take (length ys) all) → length ys < length all → get_or all (length ys) x ≡ x
      → q x ≡ false → map view items ≡ filter q (take (length (ys ++ y ∷ [])) all)
  left_out items known less here fails = known ∙ sym (append_none (filter q (take (length ys) all))) ∙ sym (one_more q all ys y x false less here fails)

pub zipped_at : {A B : Type 0} (ks : List A) (vs : List B) (n : ℕ) (k : A) (v : B) → n < length ks → n < length vs → k ≡ get_or ks n k → v ≡ get_or vs n v
    → get_or (zip ks vs) n (k, v) ≡ (k, v)
zipped_at ks vs n k v low high first second = get_or-zip ks vs n (k, v) low high ∙ (λ i. (sym first i, sym second i))

pub zipped_below : {A B : Type 0} (ks : List A) (vs : List B) (n : ℕ) → n < length ks → n < length vs → n < length (zip ks vs)
zipped_below ks vs n low high = let e = length-zip ks vs in omega (arith, e)

pub all_zipped : {A B : Type 0} (ks : List A) (vs : List B) (n : ℕ) → n ≡ length (zip ks vs) → take n (zip ks vs) ≡ zip ks vs
all_zipped ks vs n e = take_all n (zip ks vs) (omega arith)

pub parts_found : (ending : List ℕ) (entries : List Entry) (texts : List (List ℕ)) (u : UploadValue) → entries ≡ u.changes.entries → texts ≡ u.texts
    → filter (λ (p : Part). has_suffix ending p.0.name) (zip entries texts) ≡ parts_with ending u
unfolding parts_with
parts_found ending entries texts u listed kept = λ i. filter (λ (p : Part). has_suffix ending p.0.name) (zip (listed i) (kept i))
