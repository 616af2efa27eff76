use Rattle.std.proofs.Common.{ℕ, List, ◌++◌, filter, map, not, codes, sym, ap, ◌∙◌}
use Rattle.std.proofs.lemmas.Grind.{flat_map-append}
use Rattle.std.proofs.lemmas.List.Folds.{flat_map-map}
use Rattle.std.proofs.lemmas.Result.{IfOk-weaker}
use Rattle.para.specs.Field.{FieldValue, field_values}
use Rattle.para.specs.Printing.{field_text, paragraph_text}
use Rattle.indices.specs.Stanzas.{is_named, is_placed, as_package, source_fields}
use Rattle.texts.proofs.Appended.{two}
use Rattle.texts.proofs.source_index.push_fields.Goals as goal

pub returns : goal.returns
unfolding source_fields
returns c =
    let named : List FieldValue = filter (is_named (codes "Source")) (field_values c.args.fields.now) in
    let others : List FieldValue = filter (λ f. not (is_placed f)) (field_values c.args.fields.now) in
    IfOk-weaker c.push_others.result _ _ (λ _ e. two c.args.out.now.items _ (paragraph_text others) _ _ c.in_ok-push_name.ensures e
    ∙ ap (λ (bs : List ℕ). c.args.out.now.items ++ (bs ++ paragraph_text others)) (sym (flat_map-map field_text as_package named))
    ∙ ap (λ (bs : List ℕ). c.args.out.now.items ++ bs) (sym (flat_map-append field_text (map as_package named) others))) c.push_others.ensures
