use Rattle.std.proofs.Common.{ℕ, List, [], ◌++◌, sym, ap, ◌∙◌}
use Rattle.std.proofs.lemmas.List.{append-nil}
use Rattle.std.proofs.lemmas.List.Folds.{flat_map-map}
use Rattle.std.proofs.lemmas.Result.{IfOk-weaker}
use Rattle.para.specs.Printing.{head_text, more_text}
use Rattle.suites.specs.declared.item.PoolFile.{PoolFile}
use Rattle.indices.specs.Stanzas.{line_field, list_line, list_field, file_name}
use Rattle.texts.proofs.Appended.{two}
use Rattle.texts.proofs.source_index.push_list.Goals as goal

pub returns : goal.returns
unfolding list_field
returns c =
    let line : PoolFile → List ℕ = λ f. list_line c.args.digest f.print (file_name f.path) in
    let head : List ℕ = head_text (line_field c.args.name.now []) in
    IfOk-weaker c.push_list_lines.result _ _ (λ _ e. two c.args.out.now.items head _ _ _
    (c.in_ok-push_line_field.ensures ∙ ap (λ (bs : List ℕ). c.args.out.now.items ++ bs) (append-nil head)) e
    ∙ ap (λ (bs : List ℕ). c.args.out.now.items ++ (head ++ bs)) (sym (flat_map-map more_text line c.args.files.now))) c.push_list_lines.ensures
