-- References that come and go at one path, as a number of them.
use Rattle.std.proofs.Common.{◌≡◌, ℕ, zero, suc, ◌+◌, ◌-◌, ◌<◌, Bool, true, false, cond, ◌&&◌, List, [], ◌∷◌, map, fold, bytes_eq, refl, sym, ap, subst, ◌∙◌, arith, Option, Some, None, lt-ltb, add-one, one-add}
use Rattle.std.specs.Prelude.{T, IfSome}
use Rattle.std.specs.Option.{option_map, unwrap_or}
use Rattle.std.specs.Ordering.{eq_by_cmp}
use Rattle.std.specs.FinMap.{find, is_sorted}
use Rattle.sums.specs.declared.print.Print.{Print}
use Rattle.suites.specs.Applying.{one_more, one_less, printed_as, with_reference, without_reference, with_print}
use Rattle.suites.specs.Counts.{count_at, shared_at}
use Rattle.suites.specs.Keys.{text_order}
use Rattle.suites.specs.KeyLemmas.{text_order_total}
use Rattle.suites.specs.Pool.{pair_of}
use Rattle.suites.specs.declared.item.PoolFile.{PoolFile}
use Rattle.suites.specs.declared.plan.Reference.{Reference}
use Rattle.suites.specs.declared.shelves.SharedFile.{SharedFile}
use Rattle.suites.proofs.MapChanges.{tied_behind}
use Rattle.suites.proofs.SharedLemmas.{same_test, count_at-cons}

-- what is kept at a path to which there is this number of references
abbrev pub shared_by : Print → ℕ → Option SharedFile
shared_by x zero = None
shared_by x (suc n) = Some (record { print = x; references = suc n })

-- a print that is used if a print has to be named and there is no file
abbrev pub blank : Print
blank = record { size = 0; md5 = []; sha1 = []; sha256 = [] }

-- how many of the references are to the path
abbrev pub hits : List ℕ → List Reference → ℕ
hits p [] = 0
hits p (r ∷ rs) = cond (bytes_eq r.path p) (suc (hits p rs)) (hits p rs)

one_later : (n h : ℕ) → suc (suc n) + h ≡ suc n + suc h
one_later n h = omega arith

more_none : (n : ℕ) → n ≡ n + 0
more_none n = omega arith

less_none : (n : ℕ) → n ≡ n - 0
less_none n = omega arith

less_later : (n h : ℕ) → (n - 1) - h ≡ n - suc h
less_later n h = omega arith

none_less : (h : ℕ) → h - h ≡ 0
none_less h = omega arith

same_less : (n h : ℕ) → (n + h) - h ≡ n
same_less n h = omega arith

two_less : (n : ℕ) → suc (suc n) - 1 ≡ suc n
two_less n = omega arith

left : (a b : Bool) → T (a && b) → T a
left true b h = tt
left false b h = absurd h

right : (a b : Bool) → T (a && b) → T b
right true b h = h
right false b h = absurd h

one_more_by : (x y : Print) (n : ℕ) → one_more y (shared_by x (suc n)) ≡ shared_by x (suc (suc n))
one_more_by x y n = ap (λ m. Some (record { print = x; references = m })) (add-one (suc n))

one_less_by : (x : Print) (n : ℕ) → one_less (shared_by x n) ≡ shared_by x (n - 1)
one_less_by x zero = refl
one_less_by x (suc zero) = refl
one_less_by x (suc (suc n)) =
    ap (λ b. cond b (Some (record { print = x; references = suc (suc n) - 1 })) None) (lt-ltb 1 (suc (suc n)) (omega arith))
    ∙ ap (λ m. Some (record { print = x; references = m })) (two_less n) ∙ sym (ap (shared_by x) (two_less n))

pub adds : (p : List ℕ) (x : Print) (n : ℕ) (rs : List Reference) → fold (with_reference p) (shared_by x (suc n)) rs ≡ shared_by x (suc n + hits p rs)
adds p x n [] = ap (shared_by x) (more_none (suc n))
adds p x n (r ∷ rs) =
    elim (bytes_eq r.path p) as (λ b. fold (with_reference p) (cond b (one_more r.print (shared_by x (suc n))) (shared_by x (suc n))) rs ≡ shared_by x (suc n + cond b (suc (hits p rs)) (hits p rs))) [
      | true ↦ ap (λ o. fold (with_reference p) o rs) (one_more_by x r.print n) ∙ adds p x (suc n) rs ∙ ap (shared_by x) (one_later n (hits p rs))
      | false ↦ adds p x n rs
    ]

pub adds_first : (p : List ℕ) (x : Print) (rs : List Reference) → (y : Print) × (fold (with_reference p) None rs ≡ shared_by y (hits p rs))
adds_first p x [] = (x, refl)
adds_first p x (r ∷ rs) =
    elim (bytes_eq r.path p) as (λ b. (y : Print) × (fold (with_reference p) (cond b (one_more r.print None) None) rs ≡ shared_by y (cond b (suc (hits p rs)) (hits p rs)))) [
      | true ↦ (r.print, adds p r.print 0 rs ∙ ap (shared_by r.print) (one-add (hits p rs)))
      | false ↦ adds_first p x rs
    ]

pub drops : (p : List ℕ) (x : Print) (n : ℕ) (rs : List Reference) → fold (without_reference p) (shared_by x n) rs ≡ shared_by x (n - hits p rs)
drops p x n [] = ap (shared_by x) (less_none n)
drops p x n (r ∷ rs) =
    elim (bytes_eq r.path p) as (λ b. fold (without_reference p) (cond b (one_less (shared_by x n)) (shared_by x n)) rs ≡ shared_by x (n - cond b (suc (hits p rs)) (hits p rs))) [
      | true ↦ ap (λ o. fold (without_reference p) o rs) (one_less_by x n) ∙ drops p x (n - 1) rs ∙ ap (shared_by x) (less_later n (hits p rs))
      | false ↦ drops p x n rs
    ]

-- the print of the last of the files at the path
abbrev pub last_print : List ℕ → Print → List PoolFile → Print
last_print p x [] = x
last_print p x (f ∷ fs) = last_print p (cond (bytes_eq f.path p) f.print x) fs

printed_by : (x y : Print) (n : ℕ) → printed_as y (shared_by x n) ≡ shared_by y n
printed_by x y zero = refl
printed_by x y (suc n) = refl

pub prints : (p : List ℕ) (x : Print) (n : ℕ) (fs : List PoolFile) → fold (with_print p) (shared_by x n) fs ≡ shared_by (last_print p x fs) n
prints p x n [] = refl
prints p x n (f ∷ fs) =
    elim (bytes_eq f.path p) as (λ b. fold (with_print p) (cond b (printed_as f.print (shared_by x n)) (shared_by x n)) fs ≡ shared_by (last_print p (cond b f.print x) fs) n) [
      | true ↦ ap (λ o. fold (with_print p) o fs) (printed_by x f.print n) ∙ prints p f.print n fs
      | false ↦ prints p x n fs
    ]

-- if no path stands twice, the last print is the one that is found
pub last_print-find : (p : List ℕ) (x : Print) (fs : List PoolFile) → T (is_sorted text_order (map pair_of fs)) → last_print p x fs ≡ unwrap_or (find text_order p (map pair_of fs)) x
last_print-find p x [] s = refl
last_print-find p x (f ∷ fs) s =
    ap (λ b. last_print p (cond b f.print x) fs) (same_test p f.path)
    ∙ elim (eq_by_cmp text_order p f.path) as (λ b. eq_by_cmp text_order p f.path ≡ b → last_print p (cond b f.print x) fs ≡ unwrap_or (cond b (Some f.print) (find text_order p (map pair_of fs))) x) [
      | true ↦ λ t. last_print-find p f.print fs (right _ _ s) ∙ ap (λ o. unwrap_or o f.print) (tied_behind text_order_total f.path p (map pair_of fs) (left _ _ s) t)
      | false ↦ λ t. last_print-find p x fs (right _ _ s)
    ] refl

pub count_positive : (p : List ℕ) (files : List (List ℕ × Print)) (x : Print) → find text_order p files ≡ Some x → 0 < count_at p files
count_positive p [] x e = cc
count_positive p (f ∷ fs) x e = by_kind (eq_by_cmp text_order p f.0) e (count_positive p fs x) (count_at-cons p f fs)
  where
    by_kind : (b : Bool) → cond b (Some f.1) (find text_order p fs) ≡ Some x → (find text_order p fs ≡ Some x → 0 < count_at p fs) → count_at p (f ∷ fs) ≡ cond b (suc (count_at p fs)) (count_at p fs) → 0 < count_at p (f ∷ fs)
    by_kind true e again c = omega (arith, c)
    by_kind false e again c = omega (arith, c, again e)

-- what is kept at a path is the print that is found there and the number of references
pub shared_found : (p : List ℕ) (files : List (List ℕ × Print)) (x : Print) → find text_order p files ≡ Some x → shared_at p files ≡ shared_by x (count_at p files)
unfolding shared_at
shared_found p files x found =
    ap (option_map (λ print. record { print = print; references = count_at p files })) found
    ∙ counted (count_at p files) (count_positive p files x found)
  where
    counted : (n : ℕ) → 0 < n → Some (record { print = x; references = n }) ≡ shared_by x n
    counted zero h = absurd (omega (arith, h))
    counted (suc n) h = refl

pub shared_missing : (p : List ℕ) (files : List (List ℕ × Print)) → find text_order p files ≡ None → shared_at p files ≡ None
unfolding shared_at
shared_missing p files e = ap (option_map (λ print. record { print = print; references = count_at p files })) e

-- references that come and go again leave what there was
pub undone : (p : List ℕ) (shared : Option SharedFile) (rs : List Reference) → IfSome shared (λ f. 0 < f.references) → fold (without_reference p) (fold (with_reference p) shared rs) rs ≡ shared
undone p None rs h =
    let there = adds_first p blank rs in
    ap (λ o. fold (without_reference p) o rs) there.1 ∙ drops p there.0 (hits p rs) rs ∙ ap (shared_by there.0) (none_less (hits p rs))
undone p (Some f) rs h =
    ap (λ o. fold (without_reference p) (fold (with_reference p) o rs) rs) (is_by f.references h)
    ∙ back f.references h
    ∙ sym (is_by f.references h)
  where
    is_by : (n : ℕ) → 0 < n → Some (record { print = f.print; references = n }) ≡ shared_by f.print n
    is_by zero h = absurd (omega (arith, h))
    is_by (suc n) h = refl

    back : (n : ℕ) → 0 < n → fold (without_reference p) (fold (with_reference p) (shared_by f.print n) rs) rs ≡ shared_by f.print n
    back zero h = absurd (omega (arith, h))
    back (suc n) h =
        ap (λ o. fold (without_reference p) o rs) (adds p f.print n rs) ∙ drops p f.print (suc n + hits p rs) rs
        ∙ ap (shared_by f.print) (same_less (suc n) (hits p rs))

-- what is counted is at least one
pub shared_positive : (p : List ℕ) (files : List (List ℕ × Print)) → IfSome (shared_at p files) (λ f. 0 < f.references)
shared_positive p files = by_print (find text_order p files) refl
  where
    positive : (x : Print) (n : ℕ) → 0 < n → IfSome (shared_by x n) (λ f. 0 < f.references)
    positive x zero h = tt
    positive x (suc n) h = omega arith

    by_print : (o : Option Print) → find text_order p files ≡ o → IfSome (shared_at p files) (λ f. 0 < f.references)
    by_print None e = subst (λ o. IfSome o (λ f. 0 < f.references)) (sym (shared_missing p files e)) tt
    by_print (Some x) e = subst (λ o. IfSome o (λ f. 0 < f.references)) (sym (shared_found p files x e)) (positive x (count_at p files) (count_positive p files x e))
