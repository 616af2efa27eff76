use Rattle.std.proofs.Common.{ℕ, nat_eq, ap, ◌∙◌}
use Rattle.std.specs.Option.{option_and_then}
use Rattle.tables.specs.declared.rows.BodyRow.{BodyRow}
use Rattle.tables_audit.proofs.KeyedLemmas.{find_same}
use Rattle.tables_audit.proofs.files.print_by_number.Goals as goal

pub returns : goal.returns
returns c =
    c.print_of.ensures
    ∙ ap (option_and_then (λ (x : ℕ × BodyRow). x.1.print)) (find_same (λ (x : ℕ × BodyRow). nat_eq x.0 c.args.id) c.about.result.now c.args.bodies.now.all.now c.about.ensures)
