use Rattle.std.proofs.Common.{sym, ap, ◌∙◌, take, fold, cond, bytes_eq}
use Rattle.std.proofs.lemmas.List.Sums.{fold_more}
use Rattle.std.specs.BTreeMap.{get_by_text}
use Rattle.suites.specs.Applying.{one_less, without_reference}
use Rattle.suites.specs.declared.plan.Reference.{Reference}
use Rattle.suites.proofs.shelves.drop_references.Goals as goal

pub loop-reference-preserved : goal.loop-reference-preserved
loop-reference-preserved c = λ path.
    let start = get_by_text c.args.files.now path in
    c.drop_reference.ensures path
    ∙ ap (λ bs. cond (bytes_eq bs path) (one_less (get_by_text c.loop-reference.files path)) (get_by_text c.loop-reference.files path)) c.as_str.ensures
    ∙ ap (λ shared. without_reference path shared c.reference-item.result) (c.loop-reference.invariant path)
    ∙ ap (λ (r : Reference). without_reference path (fold (without_reference path) start (take c.loop-reference.reference-index c.args.dropped.now)) r) c.reference-item.is
    ∙ sym (fold_more (without_reference path) start c.args.dropped.now c.loop-reference.reference-index c.reference-item.result c.loop-reference-test.true)
