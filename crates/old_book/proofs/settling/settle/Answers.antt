use Rattle.std.proofs.Common.{◌∙◌}
use Rattle.old_book.proofs.SettlingLemmas.{settled_wants}
use Rattle.old_book.proofs.settling.settle.Goals as goal

pub returns : goal.returns
returns c =
    c.retain_others.ensures
    ∙ settled_wants c.args.uploads.now c.in_ok-judged_among.field-0.items c.in_order-ids.result.rising.items c.args.wants.now.items c.in_ok-judged_among.ensures c.in_order-ids.ensures
