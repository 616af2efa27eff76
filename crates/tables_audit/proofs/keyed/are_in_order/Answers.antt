use Rattle.std.proofs.Common.{sym, ◌∙◌}
use Rattle.tables_audit.proofs.KeyedLemmas.{order_is}
use Rattle.tables_audit.proofs.keyed.are_in_order.Goals as goal

pub returns : goal.returns
returns g c =
    let order = order_is g.T.Keyed.key_of c.args.rows.now in
    (λ e. order.0 (sym c.do_rise.ensures ∙ e), λ up. c.do_rise.ensures ∙ order.1 up)
