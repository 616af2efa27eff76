-- Items that come and go one by one.
use Rattle.std.proofs.Common.{◌≡◌, ℕ, ◌+◌, ◌<◌, Bool, true, false, cond, ◌||◌, not, List, [], ◌∷◌, ◌++◌, map, filter, take, length, get_or, refl, sym, ap, ◌∙◌, append-nil, Option, Some, None, Result, Ok, Err, OnOk, OnErr}
use Rattle.std.specs.Prelude.{All, is_some, T, fold}
use Rattle.std.specs.List.{list_any, AllByRecursion}
use Rattle.std.specs.declared.cmp.Ordering.{Ordering}
use Rattle.std.specs.declared.cmp.Ordering.TheVariants.{Equal}
use Rattle.std.specs.Ordering.{eq_by_cmp}
use Rattle.std.specs.Cmp.{IsTotalOrder, Equal-is}
use Rattle.std.specs.FinMap.{FinMap, get, contains_key, insert, remove, find, is_sorted, get-insert, get-remove, get_tied, get-from_entries, from_entries, same_map, IsAntisymmetric}
use Rattle.std.specs.FinMap.Entries.{find-where_key, is_sorted-where_key}
use Rattle.std.proofs.lemmas.List.{take_more}
use Rattle.std.proofs.lemmas.List.Elements.{recursion_from_All, filter-append, All-weaker, All-from_recursion}
use Rattle.std.proofs.lemmas.List.Folds.{list_any-append}
use Rattle.std.proofs.lemmas.List.Sums.{fold_push}
use Rattle.std.proofs.lemmas.Bool.{or_parts}
use Rattle.suites.specs.Change.{without, with_all}
use Rattle.suites.proofs.MapChanges.{or_else, get-without, get-with_all}

pub must_succeed : {V E X P : Type 0} (r : Result V E) (o : Option X) → is_some o ≡ true → OnErr r (o ≡ None) → OnOk r P → P
must_succeed (Ok v) o there absent ok = ok
must_succeed (Err e) None there absent ok = cc
must_succeed (Err e) (Some x) there absent ok = cc

removed_also : {X : Type 0} (b t : Bool) (x : Option X) → cond t None (cond b None x) ≡ cond (b || (t || false)) None x
removed_also true true x = refl
removed_also true false x = refl
removed_also false true x = refl
removed_also false false x = refl

-- one more of those that pass
pub kept_more : {A : Type 0} (test : A → Bool) (es : List A) (i : ℕ) (e : A) → i < length es → e ≡ get_or es i e → test e ≡ true
    → filter test (take i es) ++ e ∷ [] ≡ filter test (take (i + 1) es)
kept_more test es i e h is t =
    ap (λ b. filter test (take i es) ++ cond b (e ∷ []) []) (sym t)
    ∙ sym (filter-append test (take i es) (e ∷ []))
    ∙ ap (λ f. filter test (take i es ++ f ∷ [])) is
    ∙ ap (filter test) (sym (take_more es i e h))

pub left_more : {A : Type 0} (test : A → Bool) (es : List A) (i : ℕ) (e : A) → i < length es → e ≡ get_or es i e → test e ≡ false
    → filter test (take i es) ≡ filter test (take (i + 1) es)
left_more test es i e h is t =
    sym (append-nil (filter test (take i es)))
    ∙ ap (λ b. filter test (take i es) ++ cond b (e ∷ []) []) (sym t)
    ∙ sym (filter-append test (take i es) (e ∷ []))
    ∙ ap (λ f. filter test (take i es ++ f ∷ [])) is
    ∙ ap (filter test) (sym (take_more es i e h))

module _ {K X : Type 0} {R : K → K → Ordering} (o : IsTotalOrder R) where
  pub removed_more : (s m n : FinMap R X) (keys : List K) (i : ℕ) (k : K) → i < length keys → k ≡ get_or keys i k → n ≡ remove m k
      → ((q : K) → get m q ≡ cond (list_any (eq_by_cmp R q) (take i keys)) None (get s q))
      → (q : K) → get n q ≡ cond (list_any (eq_by_cmp R q) (take (i + 1) keys)) None (get s q)
  removed_more s m n keys i k h is e so_far q =
      ap (λ m. get m q) e ∙ get-remove o m k q ∙ ap (cond (eq_by_cmp R q k) None) (so_far q)
      ∙ removed_also (list_any (eq_by_cmp R q) (take i keys)) (eq_by_cmp R q k) (get s q)
      ∙ ap (λ b. cond b None (get s q))
      (sym (list_any-append (eq_by_cmp R q) (take i keys) (k ∷ []))
      ∙ ap (λ x. list_any (eq_by_cmp R q) (take i keys ++ x ∷ [])) is
      ∙ ap (list_any (eq_by_cmp R q)) (sym (take_more keys i k h)))

  pub others_more : (s m n : FinMap R X) (k : K) (v : X) (rest : List K) (q : K) → n ≡ insert m k v
      → (get m q ≡ get s q) × (list_any (eq_by_cmp R q) (k ∷ rest) ≡ false) → (get n q ≡ get s q) × (list_any (eq_by_cmp R q) rest ≡ false)
  others_more s m n k v rest q e h =
      let no = or_parts (eq_by_cmp R q k) (list_any (eq_by_cmp R q) rest) h.1 in
      (ap (λ m. get m q) e ∙ get-insert o m k v q ∙ ap (λ b. cond b (Some v) (get m q)) no.0 ∙ h.0, no.1)

  absent_by : (m : FinMap R X) (q : K) (es : List (K × X)) → AllByRecursion (λ e. get m e.0 ≡ None) es → list_any (eq_by_cmp R q) (map (λ e. e.0) es) ≡ true → get m q ≡ None
  absent_by m q [] h e = cc
  absent_by m q (f ∷ es) h e =
      elim (eq_by_cmp R q f.0) as (λ b. eq_by_cmp R q f.0 ≡ b → (b || list_any (eq_by_cmp R q) (map (λ e. e.0) es)) ≡ true → get m q ≡ None) [
        | true ↦ λ t _. sym (tied t) ∙ h.0
        | false ↦ λ t rest. absent_by m q es h.1 rest
      ] refl e
    where
      tied : eq_by_cmp R q f.0 ≡ true → get m f.0 ≡ get m q
      tied t = get_tied o m q f.0 ((Equal-is (R q f.0)).0 t)

  pub taken_back : IsAntisymmetric R → (s m n : FinMap R X) (es : List (K × X)) (keys : List K) → keys ≡ map (λ e. e.0) es
      → All (λ e. get s e.0 ≡ None) es
      → ((q : K) → get n q ≡ cond (list_any (eq_by_cmp R q) keys) None (get m q))
      → ((q : K) → list_any (eq_by_cmp R q) keys ≡ false → get m q ≡ get s q)
      → n ≡ s
  taken_back same s m n es keys are absent gone others = same_map o same n s (λ q. gone q ∙
      elim (list_any (eq_by_cmp R q) keys) as (λ b. list_any (eq_by_cmp R q) keys ≡ b → cond b None (get m q) ≡ get s q) [
        | true ↦ λ t. sym (absent_by s q es (recursion_from_All (λ e. get s e.0 ≡ None) es absent) (ap (list_any (eq_by_cmp R q)) (sym are) ∙ t))
        | false ↦ λ t. others q t
      ] refl)

  pub still_there : (m n : FinMap R X) (k : K) (v : X) (es : List (K × X)) → n ≡ insert m k v → All (λ e. contains_key m e.0 ≡ true) es → All (λ e. contains_key n e.0 ≡ true) es
  still_there m n k v es e h = All-weaker (λ (f : K × X). contains_key m f.0 ≡ true) (λ (f : K × X). contains_key n f.0 ≡ true)
      (λ f there. ap (λ m. contains_key m f.0) e ∙ ap is_some (get-insert o m k v f.0) ∙ either_way (eq_by_cmp R f.0 k) (get m f.0) there) es h
    where
      either_way : (b : Bool) (x : Option X) → is_some x ≡ true → is_some (cond b (Some v) x) ≡ true
      either_way true x h = refl
      either_way false x h = h

  -- one more of those that go, or that stay
  pub gone_more : (m : FinMap R X) (test : K × X → Bool) (es : List (K × X)) (i : ℕ) (e : K × X) → i < length es → e ≡ get_or es i e
      → without m (filter test (take (i + 1) es)) ≡ cond (test e) (remove (without m (filter test (take i es))) e.0) (without m (filter test (take i es)))
  unfolding without
  gone_more m test es i e h is =
      ap (λ fs. fold (λ m e. remove m e.0) m (filter test fs)) (take_more es i e h)
      ∙ ap (λ f. fold (λ m e. remove m e.0) m (filter test (take i es ++ f ∷ []))) (sym is)
      ∙ ap (fold (λ m e. remove m e.0) m) (filter-append test (take i es) (e ∷ []))
      ∙ elim (test e) as (λ b. fold (λ m e. remove m e.0) m (filter test (take i es) ++ cond b (e ∷ []) []) ≡ cond b (remove (fold (λ m e. remove m e.0) m (filter test (take i es))) e.0) (fold (λ m e. remove m e.0) m (filter test (take i es)))) [
        | true ↦ fold_push (λ m e. remove m e.0) m (filter test (take i es)) e
        | false ↦ ap (fold (λ m e. remove m e.0) m) (append-nil (filter test (take i es)))
      ]

  pub one_gone : (m : FinMap R X) (test : K × X → Bool) (es : List (K × X)) (i : ℕ) (e : K × X) → i < length es → e ≡ get_or es i e → test e ≡ true
      → remove (without m (filter test (take i es))) e.0 ≡ without m (filter test (take (i + 1) es))
  one_gone m test es i e h is t =
      sym (gone_more m test es i e h is ∙ ap (λ b. cond b (remove (without m (filter test (take i es))) e.0) (without m (filter test (take i es)))) t)

  pub one_stays : (m : FinMap R X) (test : K × X → Bool) (es : List (K × X)) (i : ℕ) (e : K × X) → i < length es → e ≡ get_or es i e → test e ≡ false
      → without m (filter test (take i es)) ≡ without m (filter test (take (i + 1) es))
  one_stays m test es i e h is t =
      sym (gone_more m test es i e h is ∙ ap (λ b. cond b (remove (without m (filter test (take i es))) e.0) (without m (filter test (take i es)))) t)

  -- putting what is new and what replaces, and removing what leaves, makes the change
  split_up : (b : Bool) (put dropped was : Option X)
      → cond (is_some (cond (not (is_some put)) dropped None)) None (or_else (cond b put None) (or_else (cond (not b) put None) was)) ≡ or_else put (cond (is_some dropped) None was)
  split_up true (Some x) dropped was = refl
  split_up false (Some x) dropped was = refl
  split_up true None (Some y) was = refl
  split_up true None None was = refl
  split_up false None (Some y) was = refl
  split_up false None None was = refl

  pub change_in_parts : IsAntisymmetric R → (m : FinMap R X) (put dropped : List (K × X)) → T (is_sorted R put) → T (is_sorted R dropped)
      → without (with_all (with_all m (filter (λ e. not (contains_key m e.0)) put)) (filter (λ e. contains_key m e.0) put)) (filter (λ e. not (is_some (find R e.0 put))) dropped)
      ≡ with_all (without m dropped) put
  change_in_parts same m put dropped sp sd = same_map o same _ _ (λ q.
      get-without o (with_all (with_all m new) replacing) leaving q
      ∙ ap (cond (is_some (find R q leaving)) None)
      (get-with_all o (with_all m new) replacing q (is_sorted-where_key R (λ k. contains_key m k) put sp)
      ∙ ap (or_else (find R q replacing)) (get-with_all o m new q (is_sorted-where_key R (λ k. not (contains_key m k)) put sp)))
      ∙ (λ i. cond (is_some (find-where_key R (λ k. not (is_some (find R k put))) q (λ x t. ap (λ r. not (is_some r)) (find_alike x q t)) dropped i)) None
      (or_else (find-where_key R (λ k. contains_key m k) q (λ x t. ap is_some (get_tied o m q x t)) put i)
      (or_else (find-where_key R (λ k. not (contains_key m k)) q (λ x t. ap (λ r. not (is_some r)) (get_tied o m q x t)) put i) (get m q))))
      ∙ split_up (contains_key m q) (find R q put) (find R q dropped) (get m q)
      ∙ sym (get-with_all o (without m dropped) put q sp ∙ ap (or_else (find R q put)) (get-without o m dropped q)))
    where
      new : List (K × X)
      new = filter (λ e. not (contains_key m e.0)) put

      replacing : List (K × X)
      replacing = filter (λ e. contains_key m e.0) put

      leaving : List (K × X)
      leaving = filter (λ e. not (is_some (find R e.0 put))) dropped

      find_alike : (x q : K) → R q x ≡ Equal → find R x put ≡ find R q put
      find_alike x q t = sym (get-from_entries o put x) ∙ get_tied o (from_entries put) q x t ∙ get-from_entries o put q

  pub all_changed : IsAntisymmetric R → (v v1 v2 v3 : FinMap R X) (put dropped new replacing : List (K × X)) → T (is_sorted R put) → T (is_sorted R dropped)
      → new ≡ filter (λ e. not (contains_key v e.0)) put → replacing ≡ filter (λ e. contains_key v e.0) put
      → v1 ≡ with_all v new → v2 ≡ with_all v1 replacing → v3 ≡ without v2 (filter (λ e. not (is_some (find R e.0 put))) dropped)
      → v3 ≡ with_all (without v dropped) put
  all_changed same v v1 v2 v3 put dropped new replacing sp sd n r e1 e2 e3 =
      e3 ∙ ap (λ m. without m (filter (λ e. not (is_some (find R e.0 put))) dropped)) (e2 ∙ (λ i. with_all (with_all_by i) (r i)))
      ∙ change_in_parts same v put dropped sp sd
    where
      with_all_by : v1 ≡ with_all v (filter (λ e. not (contains_key v e.0)) put)
      with_all_by = e1 ∙ ap (with_all v) n

  passing : (test : K × X → Bool) (P : K × X → Type 0) → ((e : K × X) → test e ≡ true → P e) → (es : List (K × X)) → AllByRecursion P (filter test es)
  passing test P h [] = tt
  passing test P h (e ∷ es) =
      elim (test e) as (λ b. test e ≡ b → AllByRecursion P (cond b (e ∷ filter test es) (filter test es))) [
        | true ↦ λ t. (h e t, passing test P h es)
        | false ↦ λ t. passing test P h es
      ] refl

  none_there : (x : Option X) → not (is_some x) ≡ true → x ≡ None
  none_there None e = refl
  none_there (Some x) e = cc

  pub new_absent : (m : FinMap R X) (put : List (K × X)) → All (λ e. get m e.0 ≡ None) (filter (λ e. not (contains_key m e.0)) put)
  new_absent m put = All-from_recursion (λ e. get m e.0 ≡ None) _ (passing (λ e. not (contains_key m e.0)) (λ e. get m e.0 ≡ None) (λ e t. none_there (get m e.0) t) put)

  there_still : (m : FinMap R X) (es : List (K × X)) (q : K) → contains_key m q ≡ true → contains_key (with_all m es) q ≡ true
  unfolding with_all
  there_still m [] q h = h
  there_still m (e ∷ es) q h = there_still (insert m e.0 e.1) es q (ap is_some (get-insert o m e.0 e.1 q) ∙ either_way (eq_by_cmp R q e.0) (get m q) h)
    where
      either_way : (b : Bool) (x : Option X) → is_some x ≡ true → is_some (cond b (Some e.1) x) ≡ true
      either_way true x h = refl
      either_way false x h = h

  pub replacing_there : (m n : FinMap R X) (new put : List (K × X)) → n ≡ with_all m new → All (λ e. contains_key n e.0 ≡ true) (filter (λ e. contains_key m e.0) put)
  replacing_there m n new put is = All-from_recursion (λ e. contains_key n e.0 ≡ true) _
      (passing (λ e. contains_key m e.0) (λ e. contains_key n e.0 ≡ true) (λ e t. ap (λ m. contains_key m e.0) is ∙ there_still m new e.0 t) put)
