use Rattle.std.proofs.Common.{sym, ap, ◌∙◌}
use Rattle.std.specs.FinMap.{entries}
use Rattle.suites.specs.KeyLemmas.{key_order_total, key_order-IsAntisymmetric}
use Rattle.suites.proofs.MapEntries.{entries-ordered}
use Rattle.suites.proofs.shelves.Shelves.items.Goals as goal

pub returns : goal.returns
returns c =
    sym (entries-ordered key_order_total key_order-IsAntisymmetric c.self.inside.items c.self.invariant.1)
    ∙ ap entries c.self.view_is
