-- What calls leave, one after another, that make nothing arrive.
use Rattle.std.specs.Prelude.{◌≡◌, ◌⊎◌, ◌≤◌, ℕ, Option, Some}
use Rattle.std.proofs.Common.{ap, ◌∙◌, inl, inr, arith}
pub use Rattle.sums.proofs.Results.{on_err}
use Rattle.book.specs.Book.{Book}
use Rattle.book.specs.Keeping.{Lasts, MoreFaults, Stays}

pub more_behind : (a b c : ℕ) → MoreFaults a b → b ≤ c → MoreFaults a c
more_behind a b c more counts = omega (arith, more, counts)

pub more_before : (a b c : ℕ) → a ≤ b → MoreFaults b c → MoreFaults a c
more_before a b c counts more = omega (arith, more, counts)

module _ {K : Type 0} (is_clean is_open : K → Type 0) (faults : K → ℕ) (book : K → Book) where
  pub lasts_on : (a b c : K) → Lasts is_clean is_open faults book a b → Lasts is_clean is_open faults book b c → Lasts is_clean is_open faults book a c
  lasts_on a b c one two = record {
    clean = λ clean. one.clean (two.clean clean);
    counts = omega (arith, one.counts, two.counts);
    was_open = λ clean up. one.was_open (two.clean clean) (two.was_open clean up);
    stays = λ clean up. elim (one.stays (two.clean clean) up) [
      | inl stays ↦ elim (two.stays clean stays) [ inl still ↦ inl still | inr more ↦ inr (more_before (faults a) (faults b) (faults c) one.counts more) ]
      | inr more ↦ inr (more_behind (faults a) (faults b) (faults c) more two.counts)
    ];
    config = two.config ∙ one.config;
  }

module _ {K : Type 0} (is_clean is_open : K → Type 0) (faults : K → ℕ) (book : K → Book) (may_leave : K → Option Book → Type 0) where
  abbrev Stay : K → K → Type 0
  Stay = Stays is_clean is_open faults book may_leave

  pub stays_on : (a b c : K) → Stay a b → Stay b c → Stay a c
  stays_on a b c one two = record {
    lasts = lasts_on is_clean is_open faults book a b c one.lasts two.lasts;
    same = λ clean up. two.same clean up ∙ one.same (two.lasts.clean clean) (two.lasts.was_open clean up);
    crash = λ clean left might. elim (two.crash clean left might) [
      | inl before ↦ one.crash (two.lasts.clean clean) left before
      | inr is ↦ inr (one.lasts.was_open (two.lasts.clean clean) is.0, is.1 ∙ ap Some (one.same (two.lasts.clean clean) is.0))
    ];
  }

  -- a crash leaves what it would have left before, or the book
  pub left_staying : {Q : Type 0} (a b : K) → Stay a b → is_clean b → (left : Option Book) → may_leave b left
      → may_leave a left ⊎ (is_open a × ((left ≡ Some (book a)) ⊎ Q))
  left_staying a b one clean left might = elim (one.crash clean left might) [
    | inl before ↦ inl before
    | inr is ↦ inr (is.0, inl is.1)
  ]

  -- a crash leaves what it would have left before, or the book, or what one more call makes of it
  pub left_arriving : {P Q : Type 0} (a b : K) → Stay a b → is_clean b → (is_open b → P → Q) → (left : Option Book) → may_leave b left ⊎ (is_open b × P)
      → may_leave a left ⊎ (is_open a × ((left ≡ Some (book a)) ⊎ Q))
  left_arriving a b one clean to_q left might = elim might [
    | inl before ↦ left_staying a b one clean left before
    | inr is ↦ inr (one.lasts.was_open clean is.0, inr (to_q is.0 is.1))
  ]
