use Rattle.std.proofs.Common.{ℕ, List, [], ◌++◌, sym, ap, ◌∙◌}
use Rattle.std.proofs.lemmas.List.{append-nil}
use Rattle.std.proofs.lemmas.List.Folds.{flat_map-map}
use Rattle.std.proofs.lemmas.Result.{IfOk-weaker}
use Rattle.para.specs.Printing.{head_text, more_text}
use Rattle.indices.specs.declared.index.Index.{Index}
use Rattle.indices.specs.Release.{index_list}
use Rattle.indices.specs.Stanzas.{line_field, list_line}
use Rattle.texts.proofs.Appended.{two}
use Rattle.texts.proofs.suite_release.push_list.Goals as goal

pub returns : goal.returns
unfolding index_list
returns c =
    let line : Index → List ℕ = λ i. list_line c.args.digest i.print i.path in
    let head : List ℕ = head_text (line_field c.args.name.now []) in
    IfOk-weaker c.push_list_lines.result _ _ (λ _ e. two c.args.out.now.items head _ _ _
    (c.in_ok-push_line_field.ensures ∙ ap (λ (bs : List ℕ). c.args.out.now.items ++ bs) (append-nil head)) e
    ∙ ap (λ (bs : List ℕ). c.args.out.now.items ++ (head ++ bs)) (sym (flat_map-map more_text line c.args.indices.now))) c.push_list_lines.ensures
