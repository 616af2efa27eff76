use Rattle.std.proofs.Common.{ap, codes, not, arith}
use Rattle.para.specs.Printing.{field_text}
use Rattle.indices.specs.Stanzas.{is_named}
use Rattle.texts.proofs.Printed.{written_more}
use Rattle.texts.proofs.binary_index.push_others.Goals as goal

pub loop-field-preserved : goal.loop-field-preserved
loop-field-preserved c =
    written_more (λ f. not (is_named (codes "Package") f)) field_text c.args.fields.now c.loop-field.field-index c.field-item.result _
    c.args.out.now.items c.loop-field.out.items c.push_if.new.out.items
    (omega arith) c.field-item.is (ap not c.has_name.ensures) c.loop-field.invariant c.in_ok-push_if.ensures
