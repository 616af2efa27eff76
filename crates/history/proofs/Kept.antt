-- What is kept after a call that changes nothing, and what the keeper was before one that it served.
use Rattle.std.specs.Prelude.{◌≡◌, ℕ, refl}
use Rattle.std.proofs.Common.{ap, ◌∙◌}
use Rattle.book.specs.Book.{Book}
use Rattle.book.specs.Keeping.{Lasts}
use Rattle.history.specs.Answers.{IsKept}
use Rattle.history.specs.Archives.{Stands, book_from, book_of}
use Rattle.history.specs.Histories.{History}

pub stands_config : (book : Book) (h : History) → Stands book h → book.config ≡ h.opening.config
unfolding book_of book_from
stands_config book h stands = ap (λ (b : Book). b.config) stands

-- the book of the history is kept, open or not
pub stands_kept : (is_open : Type 0) (book : Book) (h : History) → Stands book h → IsKept is_open book h
stands_kept is_open book h stands = record { config = stands_config book h stands; stands = λ _. stands }

-- A call that changes nothing: the configuration stays, and a keeper that is open was open and has the book that
-- it had.
pub record IsSame (open_before open_after : Type 0) (old new : Book) : Type 0 where
  pub config : new.config ≡ old.config
  pub was_open : open_after → open_before
  pub book : open_after → new ≡ old

pub untouched : (is_open : Type 0) (book : Book) → IsSame is_open is_open book book
untouched is_open book = record { config = refl; was_open = λ up. up; book = λ up. refl }

-- what the clauses of a keeper's call say of one that is clean
pub same_by : {K : Type 0} {is_clean is_open : K → Type 0} {faults : K → ℕ} {book : K → Book} {old new : K} → Lasts is_clean is_open faults book old new → is_clean new
    → (is_clean new → is_open new → book new ≡ book old) → IsSame (is_open old) (is_open new) (book old) (book new)
same_by lasts clean same = record { config = lasts.config; was_open = λ up. lasts.was_open clean up; book = λ up. same clean up }

pub same_past : {first second third : Type 0} {a b c : Book} → IsSame first second a b → IsSame second third b c → IsSame first third a c
same_past one two = record {
  config = two.config ∙ one.config;
  was_open = λ up. one.was_open (two.was_open up);
  book = λ up. two.book up ∙ one.book (two.was_open up);
}
