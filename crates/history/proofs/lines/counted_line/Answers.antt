use Rattle.std.proofs.Common.{sym, ◌∙◌, append_assoc}
use Rattle.std.specs.Prelude.{codes, decimal}
use Rattle.std.proofs.lemmas.Result.{IfOk-weaker}
use Rattle.history.proofs.lines.counted_line.Goals as goal

pub returns : goal.returns
returns c = IfOk-weaker c.format.result _ _ (λ line is. is ∙ sym (append_assoc (decimal c.args.count) (codes " ") c.args.name.now)) c.format.ensures.ok
