-- Words of those who go over the lists of a book.
use Rattle.std.specs.Prelude.{ℕ, nat_eq, Bool, if◌then◌else◌, List}
use Rattle.std.specs.List.{list_any}
use Rattle.sums.specs.declared.print.Print.{Print}
use Rattle.suites.specs.declared.item.Item.{Item}
use Rattle.suites.specs.declared.key.ShelfKey.{ShelfKey}
use Rattle.book.specs.Book.{at_latest, is_arrival_of, touches}
use Rattle.book.specs.declared.arrival.Arrival.{Arrival}
use Rattle.book.specs.declared.change.Step.{Step}

-- the arrival with the greater of its moment and this one, if it is of this name and print
abbrev pub marked : List ℕ → Print → ℕ → Arrival → Arrival
marked name print moment a = if is_arrival_of name print a then at_latest moment a else a

-- an entry of the list stands in the suite
abbrev pub is_put_in : ℕ → List (ShelfKey × Item) → Bool
is_put_in suite entries = list_any (λ e. nat_eq e.0.suite suite) entries

-- one of the steps changes what the suite shows
abbrev pub some_touches : ℕ → List Step → Bool
some_touches suite steps = list_any (λ step. touches suite step.plan) steps
