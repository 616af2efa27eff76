use Rattle.std.proofs.Common.{◌≡◌, take, ◌+◌, [], ◌∷◌, ◌++◌, map, sym, ap, ◌∙◌}
use Rattle.std.specs.String.{string_bytes}
use Rattle.std.proofs.lemmas.List.{map-append, take_more}
use Rattle.history.specs.Archives.{each_once, with_name}
use Rattle.history.proofs.PromotionSteps.{each_once-push}
use Rattle.history.proofs.promotion.in_order.Goals as goal

pub loop-name-preserved : goal.loop-name-preserved
loop-name-preserved c =
    let name = c.name-item.result in
    let before = take c.loop-name.name-index c.args.names.now in
    let more : take (c.loop-name.name-index + 1) c.args.names.now ≡ before ++ name ∷ [] =
    take_more c.args.names.now c.loop-name.name-index name c.loop-name-test.true ∙ ap (λ x. before ++ x ∷ []) (sym c.name-item.is) in
    c.in_ok-add_name.ensures
    ∙ ap (with_name (map string_bytes c.loop-name.set.keys)) c.as_str.ensures.value
    ∙ ap (λ names. with_name names (string_bytes name)) c.loop-name.invariant
    ∙ sym (each_once-push (map string_bytes before) (string_bytes name))
    ∙ ap each_once (sym (ap (map string_bytes) more ∙ map-append string_bytes before (name ∷ [])))
