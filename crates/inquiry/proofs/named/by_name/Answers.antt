use Rattle.std.proofs.Common.{◌≡◌, take, ◌+◌, [], ◌∷◌, ◌++◌, cond, bytes_eq, sym, ap, ◌∙◌}
use Rattle.std.proofs.lemmas.List.{take_more}
use Rattle.inquiry.specs.Named.{delivered, deliveries_of}
use Rattle.inquiry.proofs.NamedLemmas.{deliveries-push}
use Rattle.inquiry.proofs.named.by_name.Goals as goal

pub loop-file-preserved : goal.loop-file-preserved
loop-file-preserved c = λ q.
    let file = c.file-item.result in
    let before = take c.loop-file.file-index c.args.arrived.now in
    let more : take (c.loop-file.file-index + 1) c.args.arrived.now ≡ before ++ file ∷ [] =
    take_more c.args.arrived.now c.loop-file.file-index file c.loop-file-test.true ∙ ap (λ x. before ++ x ∷ []) (sym c.file-item.is) in
    c.in_ok-add_to_group.ensures q
    ∙ ap (λ ds. ds ++ cond (bytes_eq c.as_str.result.now q) (delivered file ∷ []) []) (c.loop-file.invariant q)
    ∙ ap (λ name. deliveries_of q before ++ cond (bytes_eq name q) (delivered file ∷ []) []) c.as_str.ensures
    ∙ deliveries-push q before file
    ∙ ap (deliveries_of q) (sym more)
