use Rattle.std.proofs.Common.{◌∙◌, sym, ap, Err}
use Rattle.std.proofs.lemmas.Result.{err_from_is_err_and}
use Rattle.desk.specs.Want.{length_value}
use Rattle.desk.proofs.FieldLemmas.{second_at, refused_at}
use Rattle.desk.proofs.head.content_length.Goals as goal

pub returns-then-is_some : goal.returns-then-is_some
returns-then-is_some c =
    sym (c.loop-field.invariant
    ∙ second_at c.args.head.now c.args.fields.now c.loop-field.field-index _ c.loop-field.length c.loop-field-test.true (sym c.is_named.ensures ∙ c.if-is_named.true) (sym c.is_some.ensures ∙ c.if-is_some.true))

pub returns-in_err-read_length : goal.returns-in_err-read_length
returns-in_err-read_length c =
    let p = err_from_is_err_and c.from_residual.result c.from_residual.ensures.1 in
    p.1 ∙ ap Err p.2 ∙ sym (c.loop-field.invariant
    ∙ refused_at c.args.head.now c.args.fields.now c.loop-field.field-index _ c.loop-field.length _ c.loop-field-test.true (sym c.is_named.ensures ∙ c.if-is_named.true) (sym c.is_some.ensures ∙ c.if-is_some.false)
    (sym (ap length_value c.of.ensures) ∙ sym c.read_length.ensures ∙ c.in_err-read_length.was))
