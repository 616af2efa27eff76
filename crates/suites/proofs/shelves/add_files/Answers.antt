use Rattle.std.proofs.Common.{sym, ap, ◌∙◌, take, fold}
use Rattle.std.specs.BTreeMap.{get_by_text}
use Rattle.suites.specs.Applying.{without_file}
use Rattle.suites.proofs.Failures.{on_failure}
use Rattle.suites.proofs.PutLemmas.{undone_files}
use Rattle.suites.proofs.shelves.add_files.Goals as goal

pub returns-then-is_err-clause-err : goal.returns-then-is_err-clause-err
returns-then-is_err-clause-err c = λ path.
    let came = take c.loop-index.index c.args.put.now in
    c.drop_files.ensures path
    ∙ ap (λ shared. fold (without_file path) shared came)
    (on_failure c.add_reference.result (sym c.is_err.ensures.value ∙ c.if-is_err.true) c.add_reference.ensures.err path ∙ c.loop-index.invariant path)
    ∙ undone_files path (get_by_text c.args.files.now path) came (c.requires path)
