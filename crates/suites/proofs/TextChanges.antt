-- A map of texts after a change at one of them.
use Rattle.std.proofs.Common.{◌≡◌, ℕ, Bool, true, false, cond, List, bytes_eq, refl, ap, ◌∙◌, Option, String, Global}
use Rattle.std.specs.BTreeMap.{BTreeMap, UpdatesBy, get_by_text}
use Rattle.std.specs.Cmp.Lexicographic.{slice_cmp}
use Rattle.std.specs.Ordering.{nat_cmp}
use Rattle.std.specs.String.{string_cmp, string_bytes}
use Rattle.std.proofs.lemmas.Map.Text.{btree_map_updates_text}
use Rattle.std.proofs.lemmas.Slice.Eq.{bytes_eq-Decides}

module _ {X : Type 0} where
  stepped : (f : List ℕ → Option X) (step : Option X → Option X) (w : Option X) (p q : List ℕ) → w ≡ step (f p) → cond (bytes_eq p q) w (f q) ≡ cond (bytes_eq p q) (step (f q)) (f q)
  stepped f step w p q e = by_kind (bytes_eq p q) refl
    where
      by_kind : (b : Bool) → bytes_eq p q ≡ b → cond b w (f q) ≡ cond b (step (f q)) (f q)
      by_kind true t = e ∙ ap (λ r. step (f r)) ((bytes_eq-Decides p q).0 t)
      by_kind false t = refl

  one_way : (b : Bool) (x : Option X) → cond b x x ≡ x
  one_way true x = refl
  one_way false x = refl

  module _ (m n : BTreeMap (String Global) X) (w : Option X) (p : List ℕ) where
    -- what is at the text becomes what a step makes of it
    pub text_step : (step : Option X → Option X) (bs : List ℕ) → UpdatesBy string_cmp (λ k. slice_cmp nat_cmp bs (string_bytes k)) m n w → bs ≡ p → w ≡ step (get_by_text m bs)
        → (q : List ℕ) → get_by_text n q ≡ cond (bytes_eq p q) (step (get_by_text m q)) (get_by_text m q)
    text_step step bs updates e is q =
        btree_map_updates_text bs m n w updates q ∙ stepped (get_by_text m) step w bs q is
        ∙ ap (λ r. cond (bytes_eq r q) (step (get_by_text m q)) (get_by_text m q)) e

    -- what is at the text stays
    pub text_kept : (bs : List ℕ) → UpdatesBy string_cmp (λ k. slice_cmp nat_cmp bs (string_bytes k)) m n w → w ≡ get_by_text m bs
        → (q : List ℕ) → get_by_text n q ≡ get_by_text m q
    text_kept bs updates is q =
        btree_map_updates_text bs m n w updates q ∙ stepped (get_by_text m) (λ x. x) w bs q is
        ∙ one_way (bytes_eq bs q) (get_by_text m q)
