-- Reads of a keeper one after the other.
use Rattle.std.proofs.Common.{ℕ, Option, inl, inr, refl, ◌∙◌, arith}
use Rattle.book.proofs.Staying.{more_behind, more_before}
use Rattle.book.specs.Book.{Book}
use Rattle.book.specs.Keeping.{Lasts, Reads}

module _ {K : Type 0} {is_clean is_open : K → Type 0} {faults : K → ℕ} {book : K → Book} where
  pub lasts_itself : (a : K) → Lasts is_clean is_open faults book a a
  lasts_itself a = record { clean = λ clean. clean; counts = omega arith; was_open = λ clean up. up; stays = λ clean up. inl up; config = refl }

  pub lasts_more : {a b c : K} → Lasts is_clean is_open faults book a b → Lasts is_clean is_open faults book b c → Lasts is_clean is_open faults book a c
  lasts_more {a} {b} {c} one two = record {
    clean = λ clean. one.clean (two.clean clean);
    counts = omega (arith, one.counts, two.counts);
    was_open = λ clean up. one.was_open (two.clean clean) (two.was_open clean up);
    stays = λ clean up. elim (one.stays (two.clean clean) up) [
      | inl stays ↦ elim (two.stays clean stays) [ inl still ↦ inl still | inr more ↦ inr (more_before (faults a) (faults b) (faults c) one.counts more) ]
      | inr more ↦ inr (more_behind (faults a) (faults b) (faults c) more two.counts)
    ];
    config = two.config ∙ one.config;
  }

  -- no read
  pub reads_none : {may_leave : K → Option Book → Type 0} (a : K) → Reads is_clean is_open faults book may_leave a a
  reads_none a = record { lasts = lasts_itself a; same = λ c o. refl; crash = λ c left l. l }

  -- some reads, and others after them
  pub reads_more : {may_leave : K → Option Book → Type 0} {a b c : K} → Reads is_clean is_open faults book may_leave a b → Reads is_clean is_open faults book may_leave b c → Reads is_clean is_open faults book may_leave a c
  reads_more r s = record {
    lasts = lasts_more r.lasts s.lasts;
    same = λ c o. s.same c o ∙ r.same (s.lasts.clean c) (s.lasts.was_open c o);
    crash = λ c left l. r.crash (s.lasts.clean c) left (s.crash c left l);
  }
