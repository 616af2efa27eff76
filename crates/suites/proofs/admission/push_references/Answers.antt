use Rattle.std.proofs.Common.{◌≡◌, ◌++◌, ◌∷◌, [], ◌+◌, arith, ap, ◌∙◌}
use Rattle.std.proofs.lemmas.List.{take_all}
use Rattle.suites.proofs.NumberedFiles.{all_numbered, all_numbered-more}
use Rattle.suites.specs.declared.item.PoolFile.{PoolFile}
use Rattle.suites.proofs.admission.push_references.Goals as goal

pub loop-index-preserved : goal.loop-index-preserved
loop-index-preserved c =
    let number : c.saturating_add.result ≡ c.loop-index.index + 1 = omega arith in
    let path = c.in_ok-try_clone-2.ensures ∙ ap (λ (f : PoolFile). f.path) c.file-item.is in
    let print = ap (λ (f : PoolFile). f.print) c.file-item.is in
    c.in_ok-push.ensures.items
    ∙ (λ i. c.loop-index.invariant i ++ record { key = c.in_ok-try_clone.ensures i; number = number i; path = path i; print = print i } ∷ [])
    ∙ all_numbered-more c.args.references.now.items c.args.key.now c.as_slice-file-items.result.now c.loop-index.index (c.loop-index.index + 1) c.file-item.result (omega arith) (omega arith)

pub returns : goal.returns
returns c =
    c.loop-index.invariant
    ∙ ap (λ files. c.args.references.now.items ++ all_numbered c.args.key.now files)
    (take_all c.loop-index.index c.as_slice-file-items.result.now (omega arith) ∙ c.as_slice-file-items.ensures)
