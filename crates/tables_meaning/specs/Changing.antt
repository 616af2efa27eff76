-- In which suites the items are that a change puts.
use Rattle.std.specs.Prelude.{ℕ, Bool, nat_lt}
use Rattle.std.specs.List.{list_all}
use Rattle.suites.specs.declared.item.Item as shelf
use Rattle.suites.specs.declared.key.ShelfKey.{ShelfKey}
use Rattle.book.specs.declared.change.Step.{Step}

-- the item is in one of the first suites, of which the number is given
unfoldable pub is_within : ℕ → ShelfKey × shelf.Item → Bool
is_within suites e = nat_lt e.0.suite suites

-- each item that a step puts is in one of these suites
unfoldable pub puts_within : ℕ → Step → Bool
puts_within suites step = list_all (is_within suites) step.plan.put
