use Rattle.std.proofs.Common.{ap, not, arith}
use Rattle.para.specs.Printing.{field_text}
use Rattle.indices.specs.Stanzas.{is_placed}
use Rattle.texts.proofs.Printed.{written_more}
use Rattle.texts.proofs.source_index.push_others.Goals as goal

pub loop-field-preserved : goal.loop-field-preserved
loop-field-preserved c =
    written_more (λ f. not (is_placed f)) field_text c.args.fields.now c.loop-field.field-index c.field-item.result _
    c.args.out.now.items c.loop-field.out.items c.push_if.new.out.items
    (omega arith) c.field-item.is (ap not c.is_placed.ensures) c.loop-field.invariant c.in_ok-push_if.ensures
