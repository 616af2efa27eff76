use Rattle.para.proofs.Fronts.{front_trans, front_append}
use Rattle.para.proofs.print.push_lines.Goals as goal

pub returns-in_err-push_line-clause-front : goal.returns-in_err-push_line-clause-front
returns-in_err-push_line-clause-front c = front_trans c.args.out.now.items c.loop-line.out.items c.push_line.new.out.items (front_append _ _ _ c.loop-line.invariant) c.push_line.ensures.front
