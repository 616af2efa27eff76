use Rattle.std.proofs.Common.{All, IfOk, IsTrue, subst}
use Rattle.std.specs.Prelude.{◌↔◌}
use Rattle.std.proofs.lemmas.Result.{IfOk-weaker}
use Rattle.tables_read.specs.All.{tables_with}
use Rattle.tables_read.specs.declared.all.AllRows.{AllRows}
use Rattle.tables_audit.specs.Bodies.{IsBodyFit}
use Rattle.tables_audit.proofs.BodiesLemmas.{bodies_fit}
use Rattle.tables_audit.proofs.bodies.are_bodies_whole.Goals as goal

pub returns : goal.returns
returns c =
    let all = c.args.all.now in
    let whole = c.are_whole.result in
    IfOk-weaker whole _ _ (bodies_fit (tables_with all))
    (subst (λ (a : AllRows). IfOk whole (λ fit. IsTrue fit ↔ All (IsBodyFit (tables_with a)) all.bodies.items)) c.new.ensures
    (subst (λ rows. IfOk whole (λ fit. IsTrue fit ↔ All (IsBodyFit (tables_with c.new.result.all.now)) rows)) c.deref-4.ensures.value c.are_whole.ensures))
