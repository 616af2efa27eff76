use Rattle.std.proofs.Common.{All, IfOk, IsTrue, subst}
use Rattle.std.specs.Prelude.{◌↔◌}
use Rattle.std.proofs.lemmas.Result.{IfOk-weaker}
use Rattle.tables_read.specs.All.{tables_with}
use Rattle.tables_read.specs.declared.all.AllRows.{AllRows}
use Rattle.tables_audit.specs.Bodies.{IsInPieces}
use Rattle.tables_audit.proofs.UnderWayLemmas.{all_under_way}
use Rattle.tables_audit.proofs.under_way.are_under_way.Goals as goal

pub returns : goal.returns
returns c =
    let all = c.args.all.now in
    let fit = c.are_all_in_pieces.result in
    IfOk-weaker fit _ _ (all_under_way (tables_with all))
    (subst (λ (a : AllRows). IfOk fit (λ is. IsTrue is ↔ All (IsInPieces (tables_with a)) all.bodies.items)) c.new.ensures
    (subst (λ rows. IfOk fit (λ is. IsTrue is ↔ All (IsInPieces (tables_with c.new.result.all.now)) rows)) c.deref.ensures.value c.are_all_in_pieces.ensures))
