use Rattle.std.proofs.Common.{ℕ, List, ◌++◌, sym, ap, ◌∙◌}
use Rattle.std.proofs.lemmas.List.{append-nil}
use Rattle.std.proofs.lemmas.Result.{IfOk-weaker}
use Rattle.indices.specs.Release.{index_lists}
use Rattle.texts.proofs.Appended.{three}
use Rattle.texts.proofs.suite_release.push_lists.Goals as goal

pub returns : goal.returns
unfolding index_lists
returns c =
    IfOk-weaker c.push_list-3.result _ _ (λ _ e. three c.args.out.now.items _ _ _ _ _ _ c.in_ok-push_list.ensures c.in_ok-push_list-2.ensures
    (e ∙ ap (λ (bs : List ℕ). c.push_list-2.new.out.items ++ bs) (sym (append-nil _)))) c.push_list-3.ensures
