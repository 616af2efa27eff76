use Rattle.std.proofs.Common.{map, ap, ◌∙◌}
use Rattle.tables_audit.specs.Signs.{arrived_sign, has_sign}
use Rattle.tables_audit.proofs.SignsLemmas.{there_same}
use Rattle.tables_audit.proofs.uploads.arrived.is_there.Goals as goal

pub returns : goal.returns
returns c =
    let arrived = c.args.arrived.now.all.now in
    c.has.ensures ∙ ap (has_sign (map arrived_sign arrived)) c.sign_of_entry-sign.ensures ∙ there_same arrived c.args.entry.now
