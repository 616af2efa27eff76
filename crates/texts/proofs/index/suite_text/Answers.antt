use Rattle.std.proofs.Common.{◌≡◌, ℕ, List, ◌++◌, false, map, codes, eqb, sym, ap, ◌∙◌}
use Rattle.std.specs.List.{starts_with}
use Rattle.std.proofs.lemmas.Str.Pattern.{starts_text}
use Rattle.std.proofs.lemmas.Result.{IfOk-weaker}
use Rattle.indices.specs.Indices.{PathText, text_at, folder_texts, suite_texts}
use Rattle.indices.proofs.Found.{behind, none_behind, text_at-behind}
use Rattle.texts.proofs.index.suite_text.Goals as goal

pub returns-in_default : goal.returns-in_default
unfolding suite_texts
returns-in_default c =
    let path : List ℕ = c.args.path.now in
    let folder : List ℕ = codes "dists/" ++ c.args.suite.now.codename ++ codes "/" in
    let own : c.as_str-2.result.now ≡ folder =
    c.as_str-2.ensures.value ∙ c.in_ok-folder.ensures ∙ ap (λ (name : List ℕ). codes "dists/" ++ name ++ codes "/") c.as_str.ensures in
    none_behind folder path (folder_texts c.args.shelves.now c.args.position c.args.suite.now c.args.date)
    (ap (starts_with eqb path) (sym own) ∙ sym (starts_text false c.as_str-2.result.now path c.in_default.ensures.cases))

pub returns : goal.returns
unfolding suite_texts
returns c =
    let path : List ℕ = c.args.path.now in
    let rest : List ℕ = c.in-Some.path.now in
    let texts : List PathText = folder_texts c.args.shelves.now c.args.position c.args.suite.now c.args.date in
    let folder : List ℕ = codes "dists/" ++ c.args.suite.now.codename ++ codes "/" in
    let own : c.as_str-2.result.now ≡ folder =
    c.as_str-2.ensures.value ∙ c.in_ok-folder.ensures ∙ ap (λ (name : List ℕ). codes "dists/" ++ name ++ codes "/") c.as_str.ensures in
    let stripped = c.in-Some.ensures.cases in
    let whole : path ≡ folder ++ rest =
    stripped.1.1 ∙ ap (λ (bs : List ℕ). c.as_str-2.result.now ++ bs) (sym stripped.2) ∙ ap (λ (bs : List ℕ). bs ++ rest) own in
    IfOk-weaker c.text_in_folder.result _ _ (λ _ e. e
    ∙ sym (text_at-behind folder rest texts) ∙ ap (λ (p : List ℕ). text_at p (map (behind folder) texts)) (sym whole)) c.text_in_folder.ensures
