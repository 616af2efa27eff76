use Rattle.std.proofs.Common.{ℕ, List, [], ◌∷◌, ◌++◌, Bool, cond, not, get_or, append_assoc, ap, ◌∙◌, arith}
use Rattle.para.specs.Field.{FieldValue, field_value}
use Rattle.para.specs.declared.field.Field.{Field}
use Rattle.output.specs.Fields.{is_unknown_field}
use Rattle.output.proofs.ListLemmas.{one_more_at}
use Rattle.output.proofs.checking.fields.push_unknown.Goals as goal

pub loop-field-preserved : goal.loop-field-preserved
loop-field-preserved c =
    let number = c.args.number in
    let fields = c.args.fields.now in
    let row : FieldValue → ℕ × List ℕ = λ f. (number, f.name) in
    c.in_ok-push_if.ensures
    ∙ ap (λ (b : Bool). c.loop-field.found.items ++ cond b ((number, c.field-item.result.name.now) ∷ []) []) (ap not c.is_known-is_unknown.ensures)
    ∙ ap (λ (f : Field). c.loop-field.found.items ++ cond (is_unknown_field (field_value f)) (row (field_value f) ∷ []) []) c.field-item.is
    ∙ (λ i. c.loop-field.invariant i ++ cond (is_unknown_field (field_value (get_or fields c.loop-field.field-index c.field-item.result))) (row (field_value (get_or fields c.loop-field.field-index c.field-item.result)) ∷ []) [])
    ∙ append_assoc c.args.found.now.items _ _
    ∙ ap (λ more. c.args.found.now.items ++ more) (one_more_at row is_unknown_field field_value fields c.loop-field.field-index c.field-item.result (omega arith))
