-- What is read of a book to say what its uploads wait for.
use Rattle.std.specs.Prelude.{◌≡◌, ◌⊎◌, ℕ, []}
use Rattle.book.specs.Book.{Book, waiting_list, arrived_in}
use Rattle.telling.specs.Why.{counting_at}
use Rattle.telling.specs.declared.why.Course.{Course}

-- It is what waits at a moment, what counts then, and what arrived, if anything waits.
pub record IsCourse (moment : ℕ) (book : Book) (course : Course) : Type 0 where
  pub waiting : course.waiting.items ≡ waiting_list moment book
  pub counting : course.counting ≡ counting_at moment book
  pub arrived_if : (course.waiting.items ≡ []) ⊎ (course.arrived.items ≡ arrived_in book)
