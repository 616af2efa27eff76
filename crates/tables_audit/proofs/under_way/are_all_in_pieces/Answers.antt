use Rattle.std.proofs.Common.{All, refl, subst}
use Rattle.std.proofs.lemmas.List.{take_all}
use Rattle.std.proofs.lemmas.List.Elements.{All-more}
use Rattle.tables_read.specs.All.{tables_with}
use Rattle.tables_audit.specs.Bodies.{IsInPieces}
use Rattle.tables_audit.proofs.under_way.are_all_in_pieces.Goals as goal

pub loop-row-preserved : goal.loop-row-preserved
loop-row-preserved c =
    All-more (IsInPieces (tables_with c.args.pieces.now.all.now)) c.args.rows.now c.loop-row.row-index _ c.loop-row-test.true c.loop-row.invariant
    (c.in_ok-is_in_pieces.ensures.0 c.if-not-branch.false)

pub returns : goal.returns
returns c = (
  λ e. subst (All (IsInPieces (tables_with c.args.pieces.now.all.now))) (take_all c.loop-row.row-index c.args.rows.now c.loop-row-test.false) c.loop-row.invariant,
  λ all. refl,
)
