use Rattle.std.proofs.Common.{IfOk, IsTrue, subst, sym}
use Rattle.std.specs.Prelude.{◌↔◌}
use Rattle.suites.specs.Told.{IsToldAs}
use Rattle.tables_audit.proofs.as_recorded.is_told.Goals as goal

pub returns-in-Source : goal.returns-in-Source
returns-in-Source c = subst (λ kind. IfOk c.is_source.result (λ told. IsTrue told ↔ IsToldAs kind c.args.item.now)) (sym c.in-Source.is) c.is_source.ensures

pub returns-in-Binary : goal.returns-in-Binary
returns-in-Binary c = subst (λ kind. IfOk c.is_binary.result (λ told. IsTrue told ↔ IsToldAs kind c.args.item.now)) (sym c.in-Binary.is) c.is_binary.ensures
