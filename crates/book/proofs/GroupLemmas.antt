-- Groups of values, as one more is added or one group is taken out.
use Rattle.std.proofs.Common.{◌≡◌, ℕ, Bool, true, false, cond, List, [], ◌∷◌, ◌++◌, Some, None, bytes_eq, refl, sym, ap, ◌∙◌, append-nil, String, Global}
use Rattle.std.specs.BTreeMap.{BTreeMap, UpdatesBy, get_by_text}
use Rattle.std.specs.Cmp.Lexicographic.{slice_cmp}
use Rattle.std.specs.Ordering.{nat_cmp}
use Rattle.std.specs.String.{string_cmp, string_bytes}
use Rattle.std.specs.declared.vec.Vec.{Vec}
use Rattle.std.proofs.lemmas.Map.Text.{btree_map_updates_text}
use Rattle.std.proofs.lemmas.Slice.Eq.{bytes_eq-Decides}
use Rattle.book.specs.Groups.{group_in}

-- one more value in the group of a name
pub group_added : {X : Type 0} (m mid n : BTreeMap (String Global) (Vec X Global)) (v : Vec X Global) (bs p : List ℕ) (x : X)
    → UpdatesBy string_cmp (λ k. slice_cmp nat_cmp bs (string_bytes k)) mid n (Some v) → bs ≡ p → v.items ≡ group_in (get_by_text m p) ++ x ∷ []
    → ((q : List ℕ) → bytes_eq p q ≡ false → get_by_text mid q ≡ get_by_text m q)
    → (q : List ℕ) → group_in (get_by_text n q) ≡ group_in (get_by_text m q) ++ cond (bytes_eq p q) (x ∷ []) []
group_added m mid n v bs p x updates e is others q =
    ap group_in (btree_map_updates_text bs mid n (Some v) updates q ∙ ap (λ r. cond (bytes_eq r q) (Some v) (get_by_text mid q)) e)
    ∙ by_kind (bytes_eq p q) refl
  where
    by_kind : (b : Bool) → bytes_eq p q ≡ b → group_in (cond b (Some v) (get_by_text mid q)) ≡ group_in (get_by_text m q) ++ cond b (x ∷ []) []
    by_kind true t = is ∙ ap (λ r. group_in (get_by_text m r) ++ x ∷ []) ((bytes_eq-Decides p q).0 t)
    by_kind false t = ap group_in (others q t) ∙ sym (append-nil (group_in (get_by_text m q)))

-- the groups without one, at other names
pub taken_apart : {X : Type 0} (m n : BTreeMap (String Global) (Vec X Global)) (bs : List ℕ) → UpdatesBy string_cmp (λ k. slice_cmp nat_cmp bs (string_bytes k)) m n None
    → (q : List ℕ) → bytes_eq bs q ≡ false → get_by_text n q ≡ get_by_text m q
taken_apart m n bs updates q other =
    btree_map_updates_text bs m n None updates q ∙ ap (λ b. cond b None (get_by_text m q)) other
