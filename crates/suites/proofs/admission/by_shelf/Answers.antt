use Rattle.std.proofs.Common.{◌≡◌, length, arith}
use Rattle.suites.specs.Keys.{key_order}
use Rattle.suites.proofs.AdmissionLemmas.{stand-step, stand-all}
use Rattle.suites.proofs.EntryLemmas.{sorted_ordered}
use Rattle.suites.proofs.admission.by_shelf.Goals as goal

pub loop-item-preserved-in_ok-insert : goal.loop-item-preserved-in_ok-insert
loop-item-preserved-in_ok-insert c = (
  c.in_ok-insert.ensures.ordered,
  stand-step c.args.suite c.args.items.items c.loop-item.yielded c.loop-item.item-iterator.rest.items c.next.new.self.rest.items c.in-Some.item
      c.in_ok-shelf.field-0 c.loop-item.shelves c.insert.new.self
      c.requires c.in-Some.ensures.steps.0 c.in_ok-shelf.ensures c.in_ok-insert.ensures.updates c.loop-item.invariant.1,
)

pub loop-item-preserved : goal.loop-item-preserved
loop-item-preserved c = (
  c.in_ok-insert.ensures.ordered,
  stand-step c.args.suite c.args.items.items c.loop-item.yielded c.loop-item.item-iterator.rest.items c.next.new.self.rest.items c.in-Some.item
      c.in_ok-shelf.field-0 c.loop-item.shelves c.insert.new.self
      c.requires c.in-Some.ensures.steps.0 c.in_ok-shelf.ensures c.in_ok-insert.ensures.updates c.loop-item.invariant.1,
)

pub returns-clause-stand : goal.returns-clause-stand
returns-clause-stand c =
    stand-all c.args.suite c.args.items.items c.loop-item.yielded c.loop-item.item-iterator.rest.items c.loop-item.shelves
    (let none : length c.loop-item.item-iterator.rest.items ≡ 0 = omega (arith, c.in-None.ensures.steps.0, c.loop-item.item-iterator.rest.ok.0) in none)
    c.loop-item.invariant.1

pub returns-clause-sorted : goal.returns-clause-sorted
returns-clause-sorted c = sorted_ordered key_order c.loop-item.shelves.entries c.loop-item.invariant.0
