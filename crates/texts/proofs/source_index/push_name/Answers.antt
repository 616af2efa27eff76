use Rattle.std.proofs.Common.{codes, arith}
use Rattle.para.specs.Printing.{field_text}
use Rattle.indices.specs.Stanzas.{is_named, as_package}
use Rattle.texts.proofs.Printed.{written_more}
use Rattle.texts.proofs.source_index.push_name.Goals as goal

pub loop-field-preserved : goal.loop-field-preserved
loop-field-preserved c =
    written_more (is_named (codes "Source")) (λ f. field_text (as_package f)) c.args.fields.now c.loop-field.field-index c.field-item.result _
    c.args.out.now.items c.loop-field.out.items c.push_name_if.new.out.items
    (omega arith) c.field-item.is c.has_name.ensures c.loop-field.invariant c.in_ok-push_name_if.ensures
