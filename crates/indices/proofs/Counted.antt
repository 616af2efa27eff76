-- How many items of a list a suite shows.
use Rattle.std.proofs.Common.{◌≡◌, ℕ, ◌+◌, Bool, true, false, List, [], ◌∷◌, ◌++◌, if◌then◌else◌, filter, length, refl, sym, ap, ◌∙◌, arith}
use Rattle.std.proofs.lemmas.List.{length-append}
use Rattle.std.proofs.lemmas.List.Elements.{filter-append}

abbrev pub counted : Bool → ℕ → ℕ
counted counts n = if counts then n + 1 else n

module _ {X : Type 0} (test : X → Bool) where
  single : (x : X) (n : ℕ) (b : Bool) → test x ≡ b → counted b n ≡ n + length (filter test (x ∷ []))
  single x n true e = rw e (omega arith)
  single x n false e = rw e (omega arith)

  -- what a loop over items has counted, after one more
  pub counted_more : (xs : List X) (x : X) (n m : ℕ) → n ≡ length (filter test xs) → m ≡ counted (test x) n
      → m ≡ length (filter test (xs ++ x ∷ []))
  counted_more xs x n m so next =
      next
      ∙ single x n (test x) refl
      ∙ ap (λ (k : ℕ). k + length (filter test (x ∷ []))) so
      ∙ sym (length-append (filter test xs) (filter test (x ∷ [])))
      ∙ ap length (sym (filter-append test xs (x ∷ [])))
