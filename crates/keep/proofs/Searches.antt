-- A search among the arrivals that count, one place further.
use Rattle.std.proofs.Common.{◌≡◌, ℕ, ◌+◌, ◌<◌, Bool, true, false, cond, List, ◌∷◌, drop, get_or, length, find, Option, Some, ap, sym, ◌∙◌}
use Rattle.std.proofs.lemmas.List.{drop_more}
use Rattle.book.specs.Book.{counts, current}
use Rattle.book.specs.declared.arrival.Arrival.{Arrival}
use Rattle.book.proofs.Moments.{current_more, current_passed}

-- the arrivals from a place on are the arrival there and those after it
at : (arrivals : List Arrival) (i : ℕ) (a : Arrival) → i < length arrivals → a ≡ get_or arrivals i a → drop i arrivals ≡ a ∷ drop (i + 1) arrivals
at arrivals i a within is = drop_more arrivals i a within ∙ ap (λ x. x ∷ drop (i + 1) arrivals) (sym is)

module _ (span : Option ℕ) (moment : ℕ) (p : Arrival → Bool) (arrivals : List Arrival) (i : ℕ) (a : Arrival) (within : i < length arrivals) (is : a ≡ get_or arrivals i a) where
  -- if the arrival does not count, the search goes on after it
  pub passed_over : counts span moment a ≡ false → find p (current span moment (drop i arrivals)) ≡ find p (current span moment (drop (i + 1) arrivals))
  passed_over ended = ap (find p) (ap (current span moment) (at arrivals i a within is) ∙ current_passed span moment a (drop (i + 1) arrivals) ended)

  -- if the arrival counts and does not pass the test, the search goes on after it
  pub is_other : counts span moment a ≡ true → p a ≡ false → find p (current span moment (drop i arrivals)) ≡ find p (current span moment (drop (i + 1) arrivals))
  is_other counts_now other =
      ap (find p) (ap (current span moment) (at arrivals i a within is) ∙ current_more span moment a (drop (i + 1) arrivals) counts_now)
      ∙ ap (λ b. cond b (Some a) (find p (current span moment (drop (i + 1) arrivals)))) other

  -- if the arrival counts and passes the test, it is found
  pub is_found : counts span moment a ≡ true → p a ≡ true → find p (current span moment (drop i arrivals)) ≡ Some a
  is_found counts_now found =
      ap (find p) (ap (current span moment) (at arrivals i a within is) ∙ current_more span moment a (drop (i + 1) arrivals) counts_now)
      ∙ ap (λ b. cond b (Some a) (find p (current span moment (drop (i + 1) arrivals)))) found
