use Rattle.std.proofs.Common.{◌≡◌, ◌++◌, take, filter, codes}
use Rattle.para.specs.Field.{field_values}
use Rattle.para.specs.Printing.{paragraph_text}
use Rattle.indices.specs.Stanzas.{is_named}
use Rattle.texts.proofs.binary_index.push_own_name.Given as goal

abbrev pub invariant-loop-field : goal.invariant-loop-field
invariant-loop-field l = l.out.items ≡ l.fn.out.items ++ paragraph_text (filter (is_named (codes "Package")) (field_values (take l.field-index l.fields)))
