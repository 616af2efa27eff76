use Rattle.std.proofs.Common.{ap, ◌∙◌}
use Rattle.std.proofs.lemmas.Result.{IfOk-weaker}
use Rattle.serde_json.specs.Written.{compact_text, has_float}
use Rattle.output.proofs.AnswerLemmas.{data_said}
use Rattle.output.proofs.PlainAnswers.{said_has_no_float}
use Rattle.output.proofs.explaining.answer.answer_json.Goals as goal

pub returns : goal.returns
returns c =
    IfOk-weaker c.to_string.result _ _
    (λ line is config shelves found said. is (ap has_float c.in_ok-answer_value.ensures ∙ said_has_no_float c.args.judgement.now c.args.answer.now)
    ∙ ap compact_text (c.in_ok-answer_value.ensures ∙ data_said config shelves found c.args.judgement.now c.args.answer.now said))
    c.to_string.ensures.text
