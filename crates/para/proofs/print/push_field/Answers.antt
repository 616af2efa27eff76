use Rattle.para.proofs.Fronts.{front_trans}
use Rattle.para.proofs.print.push_field.Goals as goal

pub returns-clause-front : goal.returns-clause-front
returns-clause-front c = front_trans c.args.out.now.items c.push_head.new.out.items c.push_lines.new.out.items c.push_head.ensures.front c.push_lines.ensures.front
