use Rattle.std.proofs.Common.{◌≡◌, ◌++◌, take}
use Rattle.para.specs.Field.{field_values}
use Rattle.para.specs.Printing.{paragraph_text}
use Rattle.para.proofs.print.push_fields.Given as goal

abbrev pub invariant-loop-field : goal.invariant-loop-field
invariant-loop-field l = l.out.items ≡ l.fn.out.items ++ paragraph_text (field_values (take l.field-index l.fields))
