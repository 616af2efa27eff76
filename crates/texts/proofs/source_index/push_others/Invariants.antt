use Rattle.std.proofs.Common.{◌≡◌, ◌++◌, take, filter, not}
use Rattle.para.specs.Field.{field_values}
use Rattle.para.specs.Printing.{paragraph_text}
use Rattle.indices.specs.Stanzas.{is_placed}
use Rattle.texts.proofs.source_index.push_others.Given as goal

abbrev pub invariant-loop-field : goal.invariant-loop-field
invariant-loop-field l = l.out.items ≡ l.fn.out.items ++ paragraph_text (filter (λ f. not (is_placed f)) (field_values (take l.field-index l.fields)))
