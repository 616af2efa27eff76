use Rattle.figures.proofs.Steps.{prints_more}
use Rattle.figures.proofs.kept.push_shown.Goals as goal

pub loop-item-preserved : goal.loop-item-preserved
loop-item-preserved c =
    prints_more c.loop-item.yielded (c.in-Some.field-0-0, c.in-Some.item) _ c.args.prints.now.items _ _ c.as_slice.ensures c.loop-item.invariant c.in_ok-push_files.ensures
