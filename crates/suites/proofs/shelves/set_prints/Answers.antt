use Rattle.std.proofs.Common.{sym, ap, ◌∙◌, take, fold}
use Rattle.std.proofs.lemmas.List.Sums.{fold_more}
use Rattle.std.specs.BTreeMap.{get_by_text}
use Rattle.suites.specs.Applying.{with_print}
use Rattle.suites.specs.declared.item.PoolFile.{PoolFile}
use Rattle.suites.proofs.shelves.set_prints.Goals as goal

pub loop-file-preserved : goal.loop-file-preserved
loop-file-preserved c = λ path.
    let start = get_by_text c.args.files.now path in
    c.set_print.ensures path
    ∙ ap (λ shared. with_print path shared c.file-item.result) (c.loop-file.invariant path)
    ∙ ap (λ (f : PoolFile). with_print path (fold (with_print path) start (take c.loop-file.file-index c.args.added.now)) f) c.file-item.is
    ∙ sym (fold_more (with_print path) start c.args.added.now c.loop-file.file-index c.file-item.result c.loop-file-test.true)
