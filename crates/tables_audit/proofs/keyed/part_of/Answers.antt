use Rattle.std.proofs.Common.{ap, ◌∙◌}
use Rattle.tables_audit.specs.Lookups.{with_key}
use Rattle.tables_audit.proofs.KeyedLemmas.{part_from, part_up_to}
use Rattle.tables_audit.proofs.keyed.part_of.Goals as goal

pub returns : goal.returns
returns g c =
    let id = c.args.id in
    ap (with_key g.T.Keyed.key_of id) c.split_at-2.ensures.front
    ∙ part_up_to g.T.Keyed.key_of id c.split_at.result.1.now c.count_up_to.result c.count_up_to.ensures.parted
    ∙ ap (with_key g.T.Keyed.key_of id) c.split_at.ensures.back
    ∙ part_from g.T.Keyed.key_of id c.args.rows.now c.count_below.result c.count_below.ensures.parted
