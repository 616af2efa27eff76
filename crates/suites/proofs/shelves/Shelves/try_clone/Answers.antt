use Rattle.std.proofs.Common.{List, sym, ap, subst, ◌∙◌}
use Rattle.std.specs.FinMap.{from_entries, values}
use Rattle.std.specs.List.Sorted.{IsStrictlySortedBy}
use Rattle.std.specs.Map.{keys_of}
use Rattle.suites.specs.Counts.{shared_at}
use Rattle.suites.specs.Keys.{key_order}
use Rattle.suites.specs.Pool.{files_of}
use Rattle.suites.specs.Shelves.{AreSound}
use Rattle.suites.specs.declared.item.Item.{Item}
use Rattle.suites.specs.declared.key.ShelfKey.{ShelfKey}
use Rattle.suites.proofs.shelves.Shelves.try_clone.Goals as goal

pub invariant_of-result : goal.invariant_of-result
invariant_of-result c =
    let same = sym c.in_ok-items.ensures in (
      subst (λ (es : List (ShelfKey × Item)). AreSound (from_entries es)) same c.self.invariant.0,
      subst (λ (es : List (ShelfKey × Item)). IsStrictlySortedBy key_order (keys_of es)) same c.self.invariant.1,
      λ path. c.in_ok-files.ensures path ∙ c.self.invariant.2 path
          ∙ ap (λ (es : List (ShelfKey × Item)). shared_at path (files_of (values (from_entries {R = key_order} es)))) same,
    )
