use Rattle.std.proofs.Common.{◌≡◌, ◌++◌, map, take, string_bytes}
use Rattle.std.specs.List.{flat_map}
use Rattle.pages.specs.SuitePage.{item_row}
use Rattle.pages.proofs.suite.push_items.Given as goal

abbrev pub invariant-loop-item : goal.invariant-loop-item
invariant-loop-item l = string_bytes l.out ≡ string_bytes l.fn.out ++ flat_map item_row (map (λ i. i.now) (take l.item-index l.items))
