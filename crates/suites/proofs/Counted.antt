-- The counts hold again once a plan is made.
use Rattle.std.proofs.Common.{◌≡◌, ℕ, zero, suc, ◌+◌, ◌-◌, ◌<◌, Bool, true, false, cond, List, [], ◌∷◌, ◌++◌, map, fold, bytes_eq, refl, sym, ap, ◌∙◌, arith, Option, Some, None}
use Rattle.std.specs.Prelude.{T, is_some}
use Rattle.std.specs.List.{enumerate_from, flat_map}
use Rattle.std.specs.Option.{unwrap_or}
use Rattle.std.specs.FinMap.{find, is_sorted, get-from_entries, values}
use Rattle.std.proofs.lemmas.Option.{same_Some}
use Rattle.sums.specs.declared.print.Print.{Print}
use Rattle.suites.specs.Applying.{with_reference, without_reference, with_print}
use Rattle.suites.specs.Counts.{count_at, shared_at}
use Rattle.suites.specs.Keys.{text_order}
use Rattle.suites.specs.KeyLemmas.{text_order_total, text_order-IsAntisymmetric}
use Rattle.suites.specs.Plan.{IsStep, references, references_of}
use Rattle.suites.specs.Pool.{pair_of, files_of}
use Rattle.suites.specs.Shelves.{ShelvesValue, pool}
use Rattle.suites.specs.declared.item.Item.{Item}
use Rattle.suites.specs.declared.item.PoolFile.{PoolFile}
use Rattle.suites.specs.declared.key.ShelfKey.{ShelfKey}
use Rattle.suites.specs.declared.plan.Plan.{Plan}
use Rattle.suites.specs.declared.plan.Reference.{Reference}
use Rattle.suites.proofs.CountLemmas.{count-change, count_at-nil, count_at-append}
use Rattle.suites.proofs.MapChanges.{or_else, get-change}
use Rattle.suites.proofs.ReferenceLemmas.{hits, shared_by, blank, adds, adds_first, drops, prints, last_print-find, shared_found, shared_missing, count_positive}
use Rattle.suites.proofs.SharedLemmas.{same_test, count_at-cons, count_at-none}

hits-append : (p : List ℕ) (rs ss : List Reference) → hits p (rs ++ ss) ≡ hits p rs + hits p ss
hits-append p [] ss = omega arith
hits-append p (r ∷ rs) ss =
    elim (bytes_eq r.path p) as (λ b. cond b (suc (hits p (rs ++ ss))) (hits p (rs ++ ss)) ≡ cond b (suc (hits p rs)) (hits p rs) + hits p ss) [
      | true ↦ omega (arith, hits-append p rs ss)
      | false ↦ hits-append p rs ss
    ]

hits-item : (p : List ℕ) (key : ShelfKey) (n : ℕ) (fs : List PoolFile)
    → hits p (map (λ (f : ℕ × PoolFile). record { key = key; number = f.0; path = f.1.path; print = f.1.print }) (enumerate_from n fs)) ≡ count_at p (map pair_of fs)
hits-item p key n [] = sym (count_at-nil p)
hits-item p key n (f ∷ fs) =
    (λ i. cond (same_test p f.path i) (suc (hits-item p key (n + 1) fs i)) (hits-item p key (n + 1) fs i))
    ∙ sym (count_at-cons p (pair_of f) (map pair_of fs))

pub hits-references : (p : List ℕ) (es : List (ShelfKey × Item)) → hits p (references es) ≡ count_at p (files_of (map (λ e. e.1) es))
unfolding references
hits-references p [] = sym (count_at-nil p)
hits-references p (e ∷ es) =
    hits-append p (references_of e) (flat_map references_of es)
    ∙ (λ i. hits-item p e.0 1 e.1.files i + hits-references p es i)
    ∙ sym (count_at-append p (map pair_of e.1.files) (files_of (map (λ f. f.1) es)))

print_is : (a f : Option Print) (r : Bool) (x g : Print) → Some g ≡ or_else a (cond r None f) → ((z : Print) → f ≡ Some z → z ≡ x) → unwrap_or a x ≡ g
print_is (Some a) f r x g e same = cc
print_is None f true x g e same = cc
print_is None f false x g e same = sym (same g (sym e))

-- what is kept at a path with `n` references left is what the files after have there, with their print
closed : (p : List ℕ) (x : Print) (n : ℕ) (before after : List (List ℕ × Print)) (added : List PoolFile) (removed : List (List ℕ × Print))
    → n ≡ count_at p after
    → T (is_sorted text_order (map pair_of added))
    → find text_order p after ≡ or_else (find text_order p (map pair_of added)) (cond (is_some (find text_order p removed)) None (find text_order p before))
    → ((z : Print) → find text_order p before ≡ Some z → z ≡ x)
    → fold (with_print p) (shared_by x n) added ≡ shared_at p after
closed p x n before after added removed count sorted found same =
    prints p x n added
    ∙ (λ i. shared_by (last_print-find p x added sorted i) (count i))
    ∙ by_print (find text_order p after) refl
  where
    by_print : (g : Option Print) → find text_order p after ≡ g → shared_by (unwrap_or (find text_order p (map pair_of added)) x) (count_at p after) ≡ shared_at p after
    by_print None e = ap (shared_by (unwrap_or (find text_order p (map pair_of added)) x)) (count_at-none p after e) ∙ sym (shared_missing p after e)
    by_print (Some g) e =
        ap (λ y. shared_by y (count_at p after)) (print_is (find text_order p (map pair_of added)) (find text_order p before) (is_some (find text_order p removed)) x g (sym e ∙ found) same)
        ∙ sym (shared_found p after g e)

adds_some : (p : List ℕ) (x : Print) (n : ℕ) (rs : List Reference) → 0 < n → fold (with_reference p) (shared_by x n) rs ≡ shared_by x (n + hits p rs)
adds_some p x zero rs h = absurd (omega (arith, h))
adds_some p x (suc n) rs h = adds p x n rs

none_other : (x z : Print) → None ≡ Some z → z ≡ x
none_other x z e = cc

remain : (c u d n : ℕ) → n + d ≡ c + u → (c + u) - d ≡ n
remain c u d n e = omega (arith, e)

remain_new : (c u d n : ℕ) → n + d ≡ c + u → c ≡ 0 → u - d ≡ n
remain_new c u d n e z = omega (arith, e, z)

counted_again : (p : List ℕ) (before after : List (List ℕ × Print)) (put dropped : List Reference) (added : List PoolFile) (removed : List (List ℕ × Print))
    → count_at p after + hits p dropped ≡ count_at p before + hits p put
    → T (is_sorted text_order (map pair_of added))
    → find text_order p after ≡ or_else (find text_order p (map pair_of added)) (cond (is_some (find text_order p removed)) None (find text_order p before))
    → fold (with_print p) (fold (without_reference p) (fold (with_reference p) (shared_at p before) put) dropped) added ≡ shared_at p after
counted_again p before after put dropped added removed law sorted found = by_print (find text_order p before) refl
  where
    by_print : (f : Option Print) → find text_order p before ≡ f → fold (with_print p) (fold (without_reference p) (fold (with_reference p) (shared_at p before) put) dropped) added ≡ shared_at p after
    by_print (Some x) e =
        ap (λ o. fold (with_print p) (fold (without_reference p) (fold (with_reference p) o put) dropped) added) (shared_found p before x e)
        ∙ ap (λ o. fold (with_print p) (fold (without_reference p) o dropped) added) (adds_some p x (count_at p before) put (count_positive p before x e))
        ∙ ap (λ o. fold (with_print p) o added) (drops p x (count_at p before + hits p put) dropped)
        ∙ closed p x (count_at p before + hits p put - hits p dropped) before after added removed (remain _ _ _ _ law) sorted found
        (λ z there. sym (same_Some x z (sym e ∙ there)))
    by_print None e =
        let first = adds_first p blank put in
        ap (λ o. fold (with_print p) (fold (without_reference p) (fold (with_reference p) o put) dropped) added) (shared_missing p before e)
        ∙ ap (λ o. fold (with_print p) (fold (without_reference p) o dropped) added) first.1
        ∙ ap (λ o. fold (with_print p) o added) (drops p first.0 (hits p put) dropped)
        ∙ closed p first.0 (hits p put - hits p dropped) before after added removed (remain_new _ _ _ _ law (count_at-none p before e)) sorted found
        (λ z there. none_other first.0 z (sym e ∙ there))

pub counted_step : (old after : ShelvesValue) (plan : Plan) → IsStep old after plan → (p : List ℕ)
    → fold (with_print p) (fold (without_reference p) (fold (with_reference p) (shared_at p (files_of (values old))) plan.references_put) plan.references_dropped) plan.files_added
    ≡ shared_at p (files_of (values after))
counted_step old after plan step p =
    counted_again p (files_of (values old)) (files_of (values after)) plan.references_put plan.references_dropped plan.files_added (map pair_of plan.files_removed)
    (ap (λ n. count_at p (files_of (values after)) + n) (ap (hits p) step.references_dropped ∙ hits-references p plan.dropped)
    ∙ count-change p old after plan.put plan.dropped step.items
    ∙ ap (λ n. count_at p (files_of (values old)) + n) (sym (ap (hits p) step.references_put ∙ hits-references p plan.put)))
    step.files.put_in_order
    (sym (get-from_entries text_order_total (files_of (values after)) p)
    ∙ get-change text_order_total text_order-IsAntisymmetric (pool old) (pool after) (map pair_of plan.files_added) (map pair_of plan.files_removed) step.files p
    ∙ ap (λ f. or_else (find text_order p (map pair_of plan.files_added)) (cond (is_some (find text_order p (map pair_of plan.files_removed))) None f)) (get-from_entries text_order_total (files_of (values old)) p))
