use Rattle.std.proofs.Common.{All, IfOk, IsTrue, subst}
use Rattle.std.specs.Prelude.{◌↔◌}
use Rattle.std.proofs.lemmas.Result.{IfOk-weaker}
use Rattle.tables_read.specs.All.{tables_with}
use Rattle.tables_read.specs.declared.all.AllRows.{AllRows}
use Rattle.tables_audit.proofs.ArrivalsLemmas.{MayBeKept, arrivals_fit}
use Rattle.tables_audit.proofs.arrivals.are_arrivals_deliverable.Goals as goal

pub returns : goal.returns
returns c =
    let all = c.args.all.now in
    let kept = c.are_deliverable.result in
    IfOk-weaker kept _ _ (arrivals_fit (tables_with all))
    (subst (λ (a : AllRows). IfOk kept (λ may. IsTrue may ↔ All (MayBeKept (tables_with a)) all.arrivals.items)) c.new.ensures
    (subst (λ rows. IfOk kept (λ may. IsTrue may ↔ All (MayBeKept (tables_with c.new.result.all.now)) rows)) c.deref.ensures.value c.are_deliverable.ensures))
