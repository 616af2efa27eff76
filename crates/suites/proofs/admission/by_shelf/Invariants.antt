use Rattle.std.specs.BTreeMap.{IsOrdered}
use Rattle.suites.specs.Keys.{key_order}
use Rattle.suites.proofs.AdmissionLemmas.{StandSoFar}
use Rattle.suites.proofs.admission.by_shelf.Given as goal

abbrev pub invariant-loop-item : goal.invariant-loop-item
invariant-loop-item l = IsOrdered key_order l.shelves × StandSoFar l.fn.suite l.fn.items.items l.yielded l.item-iterator.rest.items l.shelves
