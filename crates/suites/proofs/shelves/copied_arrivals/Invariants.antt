use Rattle.std.proofs.Common.{take}
use Rattle.std.specs.FinMap.{from_entries}
use Rattle.suites.specs.Applying.{AreArrivals}
use Rattle.suites.specs.Keys.{key_order}
use Rattle.suites.proofs.shelves.copied_arrivals.Given as goal

abbrev pub invariant-loop-key : goal.invariant-loop-key
invariant-loop-key l = AreArrivals (from_entries {R = key_order} l.items.entries) (take l.key-index l.put) (record { new_keys = l.new_keys; new = l.new; replacing = l.replacing })
