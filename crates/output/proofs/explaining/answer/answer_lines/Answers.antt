use Rattle.std.proofs.Common.{[], ◌∷◌, ◌++◌, ap, ◌∙◌}
use Rattle.output.proofs.AnswerLemmas.{lines_said}
use Rattle.output.proofs.explaining.answer.answer_lines.Goals as goal

pub returns : goal.returns
returns c = λ config shelves found said.
    lines_said config shelves found c.args.judgement.now c.args.answer.now c.push.new.self.items c.push_said.new.lines.items c.in_ok-first_line.field-0
    (c.in_ok-push.ensures.items ∙ ap (λ ls. ls ++ c.in_ok-first_line.field-0 ∷ []) c.new-lines.ensures.items) c.in_ok-first_line.ensures
    c.in_ok-push_said.ensures said
