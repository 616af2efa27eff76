use Rattle.std.proofs.Common.{ap, ◌∙◌}
use Rattle.std.proofs.lemmas.Result.{IfOk-weaker}
use Rattle.serde_json.specs.Written.{compact_text, has_float}
use Rattle.output.proofs.PlainAnswers.{waits_have_no_float}
use Rattle.output.proofs.explaining.waits.waiting_json.Goals as goal

pub returns : goal.returns
returns c =
    IfOk-weaker c.to_string.result _ _
    (λ line is. is (ap has_float c.in_ok-waiting_value.ensures ∙ waits_have_no_float c.args.upload.now c.args.since c.args.came.now)
    ∙ ap compact_text c.in_ok-waiting_value.ensures)
    c.to_string.ensures.text
