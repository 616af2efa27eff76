use Rattle.std.proofs.Common.{ap, ◌∙◌}
use Rattle.std.proofs.lemmas.Result.{IfOk-weaker}
use Rattle.serde_json.specs.Written.{compact_text, has_float}
use Rattle.output.proofs.NoFloats.{shown_has_no_float}
use Rattle.output.proofs.listing.json.json_in.Goals as goal

pub returns : goal.returns
returns c =
    IfOk-weaker c.to_string.result _ _
    (λ line is. is (ap has_float c.in_ok-value_in.ensures ∙ shown_has_no_float c.args.codename.now c.args.item.now) ∙ ap compact_text c.in_ok-value_in.ensures)
    c.to_string.ensures.text
