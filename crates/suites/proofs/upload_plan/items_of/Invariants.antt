use Rattle.std.proofs.Common.{◌≡◌, ◌++◌, map, take}
use Rattle.suites.specs.Items.{item_of}
use Rattle.suites.proofs.UploadItems.{source_items, binary_items}
use Rattle.suites.proofs.upload_plan.items_of.Given as goal

abbrev pub invariant-loop-binary : goal.invariant-loop-binary
invariant-loop-binary l =
    l.items.items ≡ map item_of (source_items l.changes l.component l.parts.source ++ binary_items l.changes l.component (take l.binary-index l.binary-items))
