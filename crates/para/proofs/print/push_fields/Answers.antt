use Rattle.para.proofs.Fronts.{front_trans, front_append}
use Rattle.para.proofs.print.push_fields.Goals as goal

pub returns-in_err-push_field-clause-front : goal.returns-in_err-push_field-clause-front
returns-in_err-push_field-clause-front c = front_trans c.args.out.now.items c.loop-field.out.items c.push_field.new.out.items (front_append _ _ _ c.loop-field.invariant) c.push_field.ensures.front
