use Rattle.std.proofs.Common.{◌∙◌, ◌++◌, ◌≡◌, ◌≤◌, sym, ap, ap₂, map, take, length, arith}
use Rattle.suites.specs.Items.{item_of}
use Rattle.suites.proofs.UploadItems.{items_more, items_all, source_items, binary_items}
use Rattle.suites.proofs.upload_plan.items_of.Goals as goal

pub loop-binary-preserved : goal.loop-binary-preserved
loop-binary-preserved c =
    c.in_ok-push-2.ensures.items
    ∙ items_more c.changes-changes.result.now c.args.component.now c.args.parts.now.source c.deref-binary-items.result.now c.loop-binary.binary-index c.binary-item.result _ _
    c.loop-binary-test.true c.binary-item.is c.loop-binary.invariant c.in_ok-binary_item.ensures

pub returns : goal.returns
returns c =
    items_all c.args.upload.now c.args.component.now c.args.parts.now c.loop-binary.binary-index c.loop-binary.items.items c.requires
    (let all = c.loop-binary-test.false in let same = ap length c.deref-binary-items.ensures.value in omega (arith, all, same))
    (c.loop-binary.invariant
    ∙ ap₂ (λ changes binaries. map item_of (source_items changes c.args.component.now c.args.parts.now.source ++ binary_items changes c.args.component.now (take c.loop-binary.binary-index binaries)))
    c.changes-changes.ensures c.deref-binary-items.ensures.value)
