-- Two lists side by side, of each pair of which something is made.
use Rattle.std.proofs.Common.{◌≡◌, ◌+◌, ◌<◌, min, List, [], ◌∷◌, ◌++◌, length, drop, get_or, append_assoc, sym, ap, ◌∙◌, arith}
use Rattle.std.specs.List.{flat_map, zip}
use Rattle.std.proofs.lemmas.List.{append-nil, drop_more, drop_all, length_push}
use Rattle.std.proofs.lemmas.Slice.Zip.{get_or-zip, length-zip}

module _ {A B C Y : Type 0} (f : A × B → List C) (ks : List A) (vs : List B) (done whole : List C) (ys : List Y) where
  -- what is left after one more pair
  left : (k : A) (v : B) → length ys < length ks → length ys < length vs → k ≡ get_or ks (length ys) k → v ≡ get_or vs (length ys) v
      → flat_map f (drop (length ys) (zip ks vs)) ≡ f (k, v) ++ flat_map f (drop (length ys + 1) (zip ks vs))
  left k v low high first second =
      let e = length-zip ks vs in
      ap (flat_map f) (drop_more (zip ks vs) (length ys) (k, v) (omega (arith, e)))
      ∙ ap (λ pair. f pair ++ flat_map f (drop (length ys + 1) (zip ks vs)))
      (get_or-zip ks vs (length ys) (k, v) low high ∙ (λ i. (sym first i, sym second i)))

  -- one more pair was looked at
  pub pair_more : (y : Y) (k : A) (v : B) (more : List C) → done ++ flat_map f (drop (length ys) (zip ks vs)) ≡ whole
      → length ys < length ks → length ys < length vs → k ≡ get_or ks (length ys) k → v ≡ get_or vs (length ys) v
      → more ≡ done ++ f (k, v) → more ++ flat_map f (drop (length (ys ++ y ∷ [])) (zip ks vs)) ≡ whole
  pair_more y k v more known low high first second pushed =
      (λ i. pushed i ++ flat_map f (drop (length_push ys y i) (zip ks vs)))
      ∙ append_assoc done (f (k, v)) (flat_map f (drop (length ys + 1) (zip ks vs)))
      ∙ ap (λ rest. done ++ rest) (sym (left k v low high first second))
      ∙ known

  -- no pair is left
  pub pairs_end : done ++ flat_map f (drop (length ys) (zip ks vs)) ≡ whole → length ys ≡ min (length ks) (length vs) → done ≡ whole
  pairs_end known ends =
      let e = length-zip ks vs in
      sym (append-nil done)
      ∙ ap (λ rest. done ++ flat_map f rest) (sym (drop_all (length ys) (zip ks vs) (omega (arith, e))))
      ∙ known
