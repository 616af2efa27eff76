use Rattle.std.proofs.Common.{[], ◌∷◌, ◌++◌, sym, ap, ◌∙◌, append_assoc, append-nil}
use Rattle.history.proofs.promotion.listed.Goals as goal

pub loop-name-init : goal.loop-name-init
loop-name-init c = ap (λ list. list ++ c.into_iter-name-iterator.result) c.new-list.ensures.items ∙ c.into_iter-name-iterator.ensures.into_iter_gives.0

pub loop-name-preserved : goal.loop-name-preserved
loop-name-preserved c =
    ap (λ list. list ++ c.next.new.self) c.in_ok-push.ensures.items
    ∙ append_assoc c.loop-name.list.items (c.in-Some.name ∷ []) c.next.new.self
    ∙ ap (λ rest. c.loop-name.list.items ++ rest) (sym c.in-Some.ensures.steps)
    ∙ c.loop-name.invariant

pub returns : goal.returns
returns c =
    sym (append-nil c.loop-name.list.items)
    ∙ ap (λ rest. c.loop-name.list.items ++ rest) (sym c.in-None.ensures.steps.0)
    ∙ c.loop-name.invariant
