-- The list that a stable sort leaves, in the words of `sqlite_keyed`.
use Rattle.std.proofs.Common.{◌≡◌, Bool, if◌then◌else◌, List, [], ◌∷◌, filter, refl, sym, ap, subst, ◌∙◌}
use Rattle.std.specs.declared.cmp.Ordering.{Ordering}
use Rattle.std.specs.Cmp.{IsStrictWeakOrder, IsTotalOrder}
use Rattle.std.specs.Fn.{Called, ComparesAs}
use Rattle.std.specs.List.Sorted.{IsSortedBy, IsStableBy, ties}
use Rattle.std.specs.Ordering.{is_gt, is_lt}
use Rattle.std.proofs.lemmas.List.Sorted.{ranks_by}
use Rattle.std.specs.List.{AllByRecursion}
use denote.Param.Members.{Mut}
use denote.Ref.{Bor}
use Rattle.sqlite_keyed.specs.Lists.{insert_sorted, sort_by}
use Rattle.book.specs.Sorted.{put_by, sorted_by}
use Rattle.book.proofs.Sorting as sorting

-- one more is put in the same place
insert-put : {X : Type 0} (order : X → X → Ordering) (x : X) (ys : List X) → insert_sorted order x ys ≡ put_by order x ys
insert-put order x [] = refl
insert-put order x (y ∷ ys) = ap (λ zs. if is_gt (order x y) then y ∷ zs else x ∷ y ∷ ys) (insert-put order x ys)

-- so the lists are the same
sort-sorted : {X : Type 0} (order : X → X → Ordering) (xs : List X) → sort_by order xs ≡ sorted_by order xs
sort-sorted order [] = refl
sort-sorted order (x ∷ xs) = insert-put order x (sort_by order xs) ∙ ap (put_by order x) (sort-sorted order xs)

pub all_sorted : {X : Type 0} (P : X → Type 0) (order : X → X → Ordering) (xs : List X) → AllByRecursion P xs → AllByRecursion P (sort_by order xs)
all_sorted P order xs all = subst (AllByRecursion P) (sym (sort-sorted order xs)) (sorting.all_sorted P order xs all)

module _ {X : Type 0} (order : X → X → Ordering) (total : IsTotalOrder order) where
  abbrev below : X → X → Bool
  below x y = is_lt (order x y)

  pub rise_sorted : (xs : List X) → sorting.Rise below (ranks_by total (λ x. x)) (sort_by order xs)
  rise_sorted xs = subst (sorting.Rise below (ranks_by total (λ x. x))) (sym (sort-sorted order xs)) (sorting.rise_sorted order total xs)

  pub stays_sorted : (z : X) (xs : List X) → filter (ties below z) (sort_by order xs) ≡ filter (ties below z) xs
  stays_sorted z xs = ap (filter (ties below z)) (sort-sorted order xs) ∙ sorting.stays_sorted order total z xs

  pub sorted_same : {F : Type 0} {g : Mut F (Bor X × (Bor X × Unit {0})) Ordering} {f : F} (xs ys : List X)
      → ((lt : X → X → Bool) → IsStrictWeakOrder lt → ComparesAs g lt f → IsSortedBy lt ys)
      → ((lt : X → X → Bool) → IsStrictWeakOrder lt → ComparesAs g lt f → IsStableBy lt xs ys)
      → ((a : Bor X × (Bor X × Unit {0})) (r : Ordering) (f' : F) → Called g f a r f' → (r ≡ order a.0.now a.1.0.now) × (f' ≡ f)) → ys ≡ sort_by order xs
  sorted_same xs ys sorted stable h = sorting.sorted_same order total xs ys sorted stable h ∙ sym (sort-sorted order xs)
