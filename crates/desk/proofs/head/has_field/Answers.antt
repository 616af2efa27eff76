use Rattle.std.proofs.Common.{◌∙◌, sym}
use Rattle.desk.proofs.FieldLemmas.{named_at}
use Rattle.desk.proofs.head.has_field.Goals as goal

pub returns-then-is_named : goal.returns-then-is_named
returns-then-is_named c =
    sym (named_at c.args.name.now c.args.head.now c.args.fields.now c.loop-field.field-index _ _ c.loop-field-test.true (sym c.is_named.ensures ∙ c.if-is_named.true)) ∙ c.loop-field.invariant

pub loop-field-preserved : goal.loop-field-preserved
loop-field-preserved c =
    sym (named_at c.args.name.now c.args.head.now c.args.fields.now c.loop-field.field-index _ _ c.loop-field-test.true (sym c.is_named.ensures ∙ c.if-is_named.false)) ∙ c.loop-field.invariant
