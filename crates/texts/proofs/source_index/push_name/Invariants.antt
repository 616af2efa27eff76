use Rattle.std.proofs.Common.{◌≡◌, ◌++◌, take, filter, codes}
use Rattle.std.specs.List.{flat_map}
use Rattle.para.specs.Field.{field_values}
use Rattle.para.specs.Printing.{field_text}
use Rattle.indices.specs.Stanzas.{is_named, as_package}
use Rattle.texts.proofs.source_index.push_name.Given as goal

abbrev pub invariant-loop-field : goal.invariant-loop-field
invariant-loop-field l = l.out.items ≡ l.fn.out.items ++ flat_map (λ f. field_text (as_package f)) (filter (is_named (codes "Source")) (field_values (take l.field-index l.fields)))
