use Rattle.std.proofs.Common.{ap, sym, ◌∙◌, append_assoc}
use Rattle.std.specs.Prelude.{codes, decimal}
use Rattle.std.proofs.lemmas.Result.{IfOk-weaker}
use Rattle.history.specs.Answers.{line_on_copy}
use Rattle.history.proofs.promotion.copy_line.Goals as goal

pub returns-in-Some : goal.returns-in-Some
returns-in-Some c =
    IfOk-weaker c.format.result _ _ (λ line is.
    is ∙ sym (append_assoc (decimal c.in-Some.items) (codes " ") c.args.source.now)
    ∙ ap (λ items. line_on_copy items c.args.source.now) (sym c.in-Some.is)) c.format.ensures.ok
