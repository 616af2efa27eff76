-- What is counted at a path.
use Rattle.std.proofs.Common.{◌≡◌, ℕ, suc, Bool, true, false, cond, List, [], ◌∷◌, length, filter, bytes_eq, refl, sym, ap, ◌∙◌, Option, Some, None}
use Rattle.std.specs.Option.{option_map, unwrap_or}
use Rattle.std.specs.declared.cmp.Ordering.{Ordering}
use Rattle.std.specs.Ordering.{eq_by_cmp}
use Rattle.std.specs.FinMap.{find, get, get-from_entries, entries, empty, values, len-entries, len-empty}
use Rattle.std.specs.Cmp.{eq_by_cmp_equiv}
use Rattle.std.proofs.lemmas.Map.Text.{is_eq-slice_cmp}
use Rattle.std.proofs.lemmas.List.{nil_from_length}
use Rattle.sums.specs.declared.print.Print.{Print}
use Rattle.suites.specs.Counts.{count_at, shared_at}
use Rattle.suites.specs.Keys.{text_order}
use Rattle.suites.specs.KeyLemmas.{text_order_total}
use Rattle.suites.specs.Pool.{files_of}
use Rattle.suites.specs.Shelves.{ShelvesValue, pool}
use Rattle.suites.specs.declared.shelves.SharedFile.{SharedFile}
use Rattle.suites.proofs.CountLemmas.{count_at-nil}

pub entries-empty : {K : Type 0} (R : K → K → Ordering) (X : Type 0) → entries (empty {X = X} {R = R}) ≡ []
entries-empty R X = nil_from_length _ (sym (len-entries empty) ∙ len-empty R X)

-- the print of a shared file is the one that is found at the path
pub print-shared_at : (p : List ℕ) (fs : List (List ℕ × Print)) → option_map (λ (f : SharedFile). f.print) (shared_at p fs) ≡ find text_order p fs
unfolding shared_at
print-shared_at p fs = of_option (count_at p fs) (find text_order p fs)
  where
    of_option : (n : ℕ) (o : Option Print) → option_map (λ (f : SharedFile). f.print) (option_map (λ print. record { print = print; references = n }) o) ≡ o
    of_option n None = refl
    of_option n (Some x) = refl

-- the test of a path in `count_at`, as that of `find`
pub same_test : (p q : List ℕ) → bytes_eq q p ≡ eq_by_cmp text_order p q
same_test p q = sym (is_eq-slice_cmp q p) ∙ (eq_by_cmp_equiv text_order_total).symm q p

pub count_at-cons : (p : List ℕ) (f : List ℕ × Print) (fs : List (List ℕ × Print)) → count_at p (f ∷ fs) ≡ cond (eq_by_cmp text_order p f.0) (suc (count_at p fs)) (count_at p fs)
unfolding count_at
count_at-cons p f fs = ap (λ b. length (cond b (f ∷ filter (λ g. bytes_eq g.0 p) fs) (filter (λ g. bytes_eq g.0 p) fs))) (same_test p f.0) ∙ by_kind (eq_by_cmp text_order p f.0)
  where
    by_kind : (b : Bool) → length (cond b (f ∷ filter (λ g. bytes_eq g.0 p) fs) (filter (λ g. bytes_eq g.0 p) fs)) ≡ cond b (suc (length (filter (λ g. bytes_eq g.0 p) fs))) (length (filter (λ g. bytes_eq g.0 p) fs))
    by_kind true = refl
    by_kind false = refl

-- no file at the path
pub count_at-none : (p : List ℕ) (fs : List (List ℕ × Print)) → find text_order p fs ≡ None → count_at p fs ≡ 0
count_at-none p [] e = count_at-nil p
count_at-none p (f ∷ fs) e = by_kind (eq_by_cmp text_order p f.0) e (count_at-none p fs) (count_at-cons p f fs)
  where
    by_kind : (b : Bool) → cond b (Some f.1) (find text_order p fs) ≡ None → (find text_order p fs ≡ None → count_at p fs ≡ 0) → count_at p (f ∷ fs) ≡ cond b (suc (count_at p fs)) (count_at p fs) → count_at p (f ∷ fs) ≡ 0
    by_kind true e again c = cc
    by_kind false e again c = c ∙ again e

sharing : ℕ → Option Print → Option SharedFile
sharing n o = option_map (λ print. record { print = print; references = n }) o

count_sharing : (n : ℕ) (o : Option Print) (f : SharedFile) → sharing n o ≡ Some f → f.references ≡ n
unfolding sharing
count_sharing n None f e = cc
count_sharing n (Some x) f e = sym (ap (λ o. unwrap_or (option_map (λ (f : SharedFile). f.references) o) n) e)

sharing_none : (n : ℕ) (o : Option Print) → sharing n o ≡ None → o ≡ None
unfolding sharing
sharing_none n None e = refl
sharing_none n (Some x) e = cc

-- the number of references if a file is shared, and if none is
pub count-shared_at : (p : List ℕ) (fs : List (List ℕ × Print)) (f : SharedFile) → shared_at p fs ≡ Some f → f.references ≡ count_at p fs
unfolding shared_at sharing
count-shared_at p fs f e = count_sharing (count_at p fs) (find text_order p fs) f e

pub count-unshared : (p : List ℕ) (fs : List (List ℕ × Print)) → shared_at p fs ≡ None → 0 ≡ count_at p fs
unfolding shared_at sharing
count-unshared p fs e = sym (count_at-none p fs (sharing_none (count_at p fs) (find text_order p fs) e))

-- the print that is kept at a path is the pool's
pub get-pool : (p : List ℕ) (v : ShelvesValue) → option_map (λ (f : SharedFile). f.print) (shared_at p (files_of (values v))) ≡ get (pool v) p
get-pool p v = print-shared_at p (files_of (values v)) ∙ sym (get-from_entries text_order_total (files_of (values v)) p)
