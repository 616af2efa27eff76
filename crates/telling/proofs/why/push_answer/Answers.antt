use Rattle.std.proofs.Common.{ℕ, ◌++◌, List, Bool, sym, ap, ◌∙◌}
use Rattle.std.proofs.lemmas.Result.{on_ok_weaker}
use Rattle.telling.specs.Why.{answer_text, shown_line}
use Rattle.telling.proofs.why.push_answer.Goals as goal

pub returns-then-is_json : goal.returns-then-is_json
unfolding answer_text
returns-then-is_json c =
    let old = c.args.out.now.items in
    on_ok_weaker c.push_shown.result (λ pushed config shelves found is.
    pushed
    ∙ ap (λ (line : List ℕ). old ++ shown_line line) (c.as_str.ensures.value ∙ c.in_ok-line.ensures config shelves found is)
    ∙ ap (λ (b : Bool). old ++ answer_text config shelves found b c.args.judgement.now) (sym c.if-is_json.true))
    c.push_shown.ensures
