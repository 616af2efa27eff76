use Rattle.std.proofs.Common.{sym, ap, ◌∙◌, take, fold, cond, bytes_eq}
use Rattle.std.proofs.lemmas.List.Sums.{fold_more}
use Rattle.std.specs.BTreeMap.{get_by_text}
use Rattle.suites.specs.Applying.{one_less, without_file}
use Rattle.suites.specs.declared.item.PoolFile.{PoolFile}
use Rattle.suites.proofs.shelves.drop_files.Goals as goal

pub loop-file-preserved : goal.loop-file-preserved
loop-file-preserved c = λ path.
    let start = get_by_text c.args.files.now path in
    c.drop_reference.ensures path
    ∙ ap (λ bs. cond (bytes_eq bs path) (one_less (get_by_text c.loop-file.files path)) (get_by_text c.loop-file.files path)) c.as_str.ensures
    ∙ ap (λ shared. without_file path shared c.file-item.result) (c.loop-file.invariant path)
    ∙ ap (λ (f : PoolFile). without_file path (fold (without_file path) start (take c.loop-file.file-index c.args.dropped.now)) f) c.file-item.is
    ∙ sym (fold_more (without_file path) start c.args.dropped.now c.loop-file.file-index c.file-item.result c.loop-file-test.true)
