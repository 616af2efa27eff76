-- The order of rows is total, and what a loop over shelves has kept.
use Rattle.std.proofs.Common.{◌≡◌, Bool, true, false, List, [], ◌∷◌, ◌++◌, if◌then◌else◌, filter, map, refl, sym, ap, ◌∙◌}
use Rattle.std.proofs.lemmas.List.{map-append}
use Rattle.std.proofs.lemmas.List.Elements.{filter-append}
use Rattle.std.specs.Cmp.{IsTotalOrder, nat_cmp_total, then_total, on_total}
use Rattle.suites.specs.KeyLemmas.{text_order_total}
use Rattle.suites.specs.Keys.{kind_number}
use Rattle.suites.specs.declared.item.Item.{Item}
use Rattle.pages.specs.SuitePage.{listing_order}

pub listing_order_total : IsTotalOrder listing_order
unfolding listing_order
listing_order_total =
    then_total (on_total (λ (i : Item). i.source) text_order_total) (on_total (λ (i : Item). kind_number i.kind) nat_cmp_total)

module _ {X Y : Type 0} (test : X → Bool) (view : X → Y) where
  single : (x : X) (b : Bool) → test x ≡ b → map view (filter test (x ∷ [])) ≡ (if b then view x ∷ [] else [])
  single x true e = rw e refl
  single x false e = rw e refl

  -- what a loop has kept of a list, after one more
  pub kept_more : (xs : List X) (x : X) (old new : List Y) → old ≡ map view (filter test xs)
      → new ≡ old ++ (if test x then view x ∷ [] else []) → new ≡ map view (filter test (xs ++ x ∷ []))
  kept_more xs x old new so next =
      next
      ∙ ap (λ (l : List Y). l ++ (if test x then view x ∷ [] else [])) so
      ∙ ap (λ (l : List Y). map view (filter test xs) ++ l) (sym (single x (test x) refl))
      ∙ sym (map-append view (filter test xs) (filter test (x ∷ [])))
      ∙ ap (map view) (sym (filter-append test xs (x ∷ [])))
