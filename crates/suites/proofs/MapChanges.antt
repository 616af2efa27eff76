-- What a change of a finite map does: its look-ups, and sums over its values.
use Rattle.std.proofs.Common.{◌≡◌, ◌≢◌, ℕ, ◌+◌, Bool, true, false, cond, List, [], ◌∷◌, refl, sym, ap, ◌∙◌, Option, Some, None, arith}
use Rattle.std.specs.Prelude.{All, T, is_some}
use Rattle.std.specs.List.{AllByRecursion}
use Rattle.std.specs.declared.cmp.Ordering.{Ordering}
use Rattle.std.specs.declared.cmp.Ordering.TheVariants.{Less, Equal, Greater}
use Rattle.std.specs.Ordering.{eq_by_cmp, is_eq, is_lt}
use Rattle.std.specs.Cmp.{IsTotalOrder, eq_by_cmp_equiv}
use Rattle.std.specs.FinMap.{FinMap, entries, get, insert, remove, find, is_sorted, get-insert, get-remove, get-entries, entries-insert, same_map, IsAntisymmetric}
use Rattle.std.specs.FinMap.Entries.{below_all, put, by_order}
use Rattle.std.proofs.lemmas.List.Elements.{recursion_from_All}
use Rattle.suites.specs.Change.{IsChange, without, with_all}
use Rattle.suites.proofs.EntryLemmas.{and_left, and_right, less_apart, same_keys}
pub use Rattle.suites.proofs.EntryLemmas.{tied_behind}

-- what the first gives, else the second
abbrev pub or_else : {X : Type 0} → Option X → Option X → Option X
or_else (Some x) o = Some x
or_else None o = o

-- the sum of the weights of the values
abbrev pub weigh : {K X : Type 0} → (X → ℕ) → List (K × X) → ℕ
weigh weight [] = 0
weigh weight (e ∷ es) = weight e.1 + weigh weight es

module _ {K X : Type 0} {R : K → K → Ordering} (o : IsTotalOrder R) where
  pub get-without : (m : FinMap R X) (es : List (K × X)) (q : K) → get (without m es) q ≡ cond (is_some (find R q es)) None (get m q)
  unfolding without
  get-without m [] q = refl
  get-without m (e ∷ es) q =
      get-without (remove m e.0) es q
      ∙ ap (cond (is_some (find R q es)) None) (get-remove o m e.0 q)
      ∙ either (eq_by_cmp R q e.0) (find R q es)
    where
      either : (b : Bool) (found : Option X) → cond (is_some found) None (cond b None (get m q)) ≡ cond (is_some (cond b (Some e.1) found)) None (get m q)
      either true None = refl
      either true (Some x) = refl
      either false found = refl

  pub get-with_all : (m : FinMap R X) (es : List (K × X)) (q : K) → T (is_sorted R es) → get (with_all m es) q ≡ or_else (find R q es) (get m q)
  unfolding with_all
  get-with_all m [] q sorted = refl
  get-with_all m (e ∷ es) q sorted =
      get-with_all (insert m e.0 e.1) es q (and_right _ _ sorted)
      ∙ ap (or_else (find R q es)) (get-insert o m e.0 e.1 q)
      ∙ elim (eq_by_cmp R q e.0) as (λ b. eq_by_cmp R q e.0 ≡ b → or_else (find R q es) (cond b (Some e.1) (get m q)) ≡ or_else (cond b (Some e.1) (find R q es)) (get m q)) [
        | true ↦ λ tied. ap (λ found. or_else found (Some e.1)) (tied_behind o e.0 q es (and_left _ _ sorted) tied)
        | false ↦ λ apart. refl
      ] refl

  -- what remains of the facts of a list in order when its first key goes or comes
  behind-get : (m n : FinMap R X) (k : K) (es : List (K × X)) (value : K × X → Option X) → T (below_all R k es)
      → ((q : K) → eq_by_cmp R q k ≡ false → get n q ≡ get m q)
      → AllByRecursion (λ e. get m e.0 ≡ value e) es → AllByRecursion (λ e. get n e.0 ≡ value e) es
  behind-get m n k [] value below alike h = tt
  behind-get m n k (e ∷ es) value below alike h = (
    alike e.0 ((eq_by_cmp_equiv o).symm e.0 k ∙ less_apart (R k e.0) (and_left _ _ below)) ∙ h.0,
    behind-get m n k es value (and_right (is_lt (R k e.0)) _ below) alike h.1,
  )

  module _ (same : IsAntisymmetric R) where
    -- a change, from what the look-ups give
    pub IsChange-from_gets : (old new : FinMap R X) (put dropped : List (K × X)) → T (is_sorted R put) → T (is_sorted R dropped)
        → ((q : K) → get new q ≡ or_else (find R q put) (cond (is_some (find R q dropped)) None (get old q)))
        → All (λ e. cond (is_some (find R e.0 dropped)) None (get old e.0) ≡ None) put
        → All (λ e. (get old e.0 ≡ Some e.1) × (get new e.0 ≢ Some e.1)) dropped
        → IsChange old new put dropped
    IsChange-from_gets old new put dropped sp sd gets absent gone = record {
      made = same_map o same _ _ (λ q. gets q ∙ sym (get-with_all (without old dropped) put q sp ∙ ap (or_else (find R q put)) (get-without old dropped q)));
      absent = λ k d lt. get-without old dropped _ ∙ absent k d lt;
      gone = gone;
      put_in_order = sp;
      dropped_in_order = sd;
    }

    pub get-change : (old new : FinMap R X) (put dropped : List (K × X)) → IsChange old new put dropped
        → (q : K) → get new q ≡ or_else (find R q put) (cond (is_some (find R q dropped)) None (get old q))
    get-change old new put dropped c q =
        ap (λ m. get m q) c.made ∙ get-with_all (without old dropped) put q c.put_in_order
        ∙ ap (or_else (find R q put)) (get-without old dropped q)

    module _ (weight : X → ℕ) where
      weigh-put : (k : K) (v : X) (es : List (K × X)) → find R k es ≡ None → weigh weight (put R k v es) ≡ weight v + weigh weight es
      weigh-put k v [] none = refl
      weigh-put k v (e ∷ es) none =
          elim (R k e.0) as (λ r. R k e.0 ≡ r → weigh weight (by_order r ((k, v) ∷ e ∷ es) ((e.0, v) ∷ es) (e ∷ put R k v es)) ≡ weight v + (weight e.1 + weigh weight es)) [
            | Less ↦ λ p. refl
            | Equal ↦ λ p. (let there : cond (eq_by_cmp R k e.0) (Some e.1) (find R k es) ≡ Some e.1 = ap (λ r. cond (is_eq r) (Some e.1) (find R k es)) p in cc)
            | Greater ↦ λ p. omega (arith, weigh-put k v es (ap (λ r. cond (is_eq r) (Some e.1) (find R k es)) (sym p) ∙ none))
          ] refl

      pub weigh-insert : (m : FinMap R X) (k : K) (v : X) → get m k ≡ None → weigh weight (entries (insert m k v)) ≡ weight v + weigh weight (entries m)
      weigh-insert m k v none = ap (weigh weight) (entries-insert o m k v) ∙ weigh-put k v (entries m) (sym (get-entries m k) ∙ none)

      pub weigh-remove : (m : FinMap R X) (k : K) (v : X) → get m k ≡ Some v → weight v + weigh weight (entries (remove m k)) ≡ weigh weight (entries m)
      weigh-remove m k v there =
          sym (weigh-insert (remove m k) k v (get-remove o m k k ∙ ap (λ b. cond b None (get m k)) ((eq_by_cmp_equiv o).refl k)))
          ∙ ap (λ n. weigh weight (entries n)) (same_map o same _ _ (λ q.
          get-insert o (remove m k) k v q
          ∙ ap (cond (eq_by_cmp R q k) (Some v)) (get-remove o m k q)
          ∙ elim (eq_by_cmp R q k) as (λ b. eq_by_cmp R q k ≡ b → cond b (Some v) (cond b None (get m q)) ≡ get m q) [
            | true ↦ λ tied. sym there ∙ ap (get m) (sym (same_keys same q k tied))
            | false ↦ λ apart. refl
          ] refl))

      weigh-without : (m : FinMap R X) (es : List (K × X)) → T (is_sorted R es) → AllByRecursion (λ e. get m e.0 ≡ Some e.1) es
          → weigh weight (entries (without m es)) + weigh weight es ≡ weigh weight (entries m)
      unfolding without
      weigh-without m [] sorted there = omega arith
      weigh-without m (e ∷ es) sorted there =
          let below : T (below_all R e.0 es) = and_left (below_all R e.0 es) (is_sorted R es) sorted in
          let later : T (is_sorted R es) = and_right (below_all R e.0 es) (is_sorted R es) sorted in
          let rest : weigh weight (entries (without (remove m e.0) es)) + weigh weight es ≡ weigh weight (entries (remove m e.0)) =
          weigh-without (remove m e.0) es later
          (behind-get m (remove m e.0) e.0 es (λ (f : K × X). Some f.1) below
          (λ (q : K) (apart : eq_by_cmp R q e.0 ≡ false). get-remove o m e.0 q ∙ ap (λ b. cond b None (get m q)) apart) there.1) in
          omega (arith, rest, weigh-remove m e.0 e.1 there.0)

      weigh-with_all : (m : FinMap R X) (es : List (K × X)) → T (is_sorted R es) → AllByRecursion (λ e. get m e.0 ≡ None) es
          → weigh weight (entries (with_all m es)) ≡ weigh weight (entries m) + weigh weight es
      unfolding with_all
      weigh-with_all m [] sorted none = omega arith
      weigh-with_all m (e ∷ es) sorted none =
          let below : T (below_all R e.0 es) = and_left (below_all R e.0 es) (is_sorted R es) sorted in
          let later : T (is_sorted R es) = and_right (below_all R e.0 es) (is_sorted R es) sorted in
          let rest : weigh weight (entries (with_all (insert m e.0 e.1) es)) ≡ weigh weight (entries (insert m e.0 e.1)) + weigh weight es =
          weigh-with_all (insert m e.0 e.1) es later
          (behind-get m (insert m e.0 e.1) e.0 es (λ (f : K × X). None) below
          (λ (q : K) (apart : eq_by_cmp R q e.0 ≡ false). get-insert o m e.0 e.1 q ∙ ap (λ b. cond b (Some e.1) (get m q)) apart) none.1) in
          omega (arith, rest, weigh-insert m e.0 e.1 none.0)

      -- what a change adds and takes away
      pub weigh-change : (old new : FinMap R X) (put dropped : List (K × X)) → IsChange old new put dropped
          → weigh weight (entries new) + weigh weight dropped ≡ weigh weight (entries old) + weigh weight put
      weigh-change old new put dropped c =
          let all : weigh weight (entries new) ≡ weigh weight (entries (without old dropped)) + weigh weight put =
          ap (λ m. weigh weight (entries m)) c.made
          ∙ weigh-with_all (without old dropped) put c.put_in_order (recursion_from_All (λ e. get (without old dropped) e.0 ≡ None) put c.absent) in
          let left : weigh weight (entries (without old dropped)) + weigh weight dropped ≡ weigh weight (entries old) =
          weigh-without old dropped c.dropped_in_order (recursion_from_All (λ e. get old e.0 ≡ Some e.1) dropped (λ k d lt. (c.gone k d lt).0)) in
          omega arith
