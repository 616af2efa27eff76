use Rattle.std.proofs.Common.{◌≡◌, ◌++◌, List, ℕ, false, sym, ap, append-nil, ◌∙◌}
use Rattle.std.specs.List.{list_any}
use Rattle.telling.specs.Why.{is_named, judged_text}
use Rattle.telling.proofs.TextLemmas.{texts_none}
use Rattle.telling.proofs.why.push_verdicts.Goals as goal

pub returns-then-not-has_judged-clause-text : goal.returns-then-not-has_judged-clause-text
returns-then-not-has_judged-clause-text g c clean =
    let book = g.K.Keeper.book c.args.keeper.now in
    let name = c.args.name.now in
    let out = c.args.out.now.items in
    let none : list_any (is_named name) book.judged ≡ false =
    sym (ap (list_any (is_named name)) (c.deref.ensures.value ∙ c.in_ok-judged.ensures.verdicts clean)) ∙ sym c.has_judged.ensures ∙ c.if-not-has_judged.true in
    sym (append-nil out) ∙ ap (λ (bs : List ℕ). out ++ bs) (sym (texts_none (is_named name) (judged_text book book.shown c.args.is_json) book.judged none))
