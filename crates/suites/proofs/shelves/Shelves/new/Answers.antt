use Rattle.std.proofs.Common.{refl, arith}
use Rattle.std.proofs.lemmas.List.Elements.{All-nil}
use Rattle.std.specs.FinMap.{empty}
use Rattle.suites.specs.Counts.{shared_at}
use Rattle.suites.specs.Items.{IsAtHome}
use Rattle.suites.specs.Keys.{key_order}
use Rattle.suites.specs.Shelves.{AreSound}
use Rattle.suites.specs.declared.item.Item.{Item}
use Rattle.suites.proofs.SharedLemmas.{entries-empty}
use Rattle.suites.proofs.shelves.Shelves.new.Goals as goal

sound : AreSound empty
sound = record { at_home = rw (entries-empty key_order Item) (All-nil IsAtHome); agreed = rw (entries-empty key_order Item) (λ path a b x y. absurd (omega (arith, x.1))) }

pub invariant_of-result : goal.invariant_of-result
unfolding shared_at
invariant_of-result c = (rw c.new.ensures.empty sound, c.new.ensures.ordered, λ path. rw (c.new.ensures.empty, c.new-2.ensures.empty, entries-empty key_order Item) refl)
