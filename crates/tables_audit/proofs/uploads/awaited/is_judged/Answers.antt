use Rattle.std.proofs.Common.{map, ap, ◌∙◌}
use Rattle.tables_audit.specs.Signs.{has_sign, judgement_sign}
use Rattle.tables_audit.specs.Uploads.{printed}
use Rattle.tables_audit.proofs.SignsLemmas.{judged_same}
use Rattle.tables_audit.proofs.uploads.awaited.is_judged.Goals as goal

pub returns : goal.returns
returns c =
    let judged = c.args.judged.now.all.now in
    c.has.ensures ∙ ap (has_sign (map judgement_sign judged)) c.sign_of_arrived-sign.ensures ∙ judged_same judged (printed c.args.arrived.now)
