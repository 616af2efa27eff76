use Rattle.std.proofs.Common.{◌≡◌, ◌++◌, take}
use Rattle.para.specs.Field.{field_values}
use Rattle.output.specs.Fields.{unknown_among}
use Rattle.output.proofs.checking.fields.push_unknown.Given as goal

abbrev pub invariant-loop-field : goal.invariant-loop-field
invariant-loop-field l = l.found.items ≡ l.fn.found.items ++ unknown_among l.number (field_values (take l.field-index l.fields))
