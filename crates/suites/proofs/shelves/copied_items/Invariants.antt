use Rattle.std.proofs.Common.{◌≡◌, ◌++◌}
use Rattle.suites.proofs.MapEntries.{read}
use Rattle.suites.proofs.shelves.copied_items.Given as goal

abbrev pub invariant-loop-key : goal.invariant-loop-key
invariant-loop-key l = read (λ k. k) l.copy.entries ++ l.key-iterator ≡ l.fn.items.entries
