use Rattle.std.proofs.Common.{All, refl, subst}
use Rattle.std.proofs.lemmas.List.{take_all}
use Rattle.std.proofs.lemmas.List.Elements.{All-more}
use Rattle.tables_read.specs.All.{tables_with}
use Rattle.tables_audit.proofs.ArrivalsLemmas.{MayBeKept}
use Rattle.tables_audit.proofs.arrivals.are_deliverable.Goals as goal

pub loop-row-preserved : goal.loop-row-preserved
loop-row-preserved c =
    let t = tables_with c.args.pieces.now.all.now in
    All-more (MayBeKept t) c.args.rows.now c.loop-row.row-index c.row-item.result c.loop-row-test.true c.loop-row.invariant
    (subst (MayBeKept t) c.row-item.is (c.in_ok-is_arrival_deliverable.ensures.0 c.if-not-branch.false))

pub returns : goal.returns
returns c = (
  λ e. subst (All (MayBeKept (tables_with c.args.pieces.now.all.now))) (take_all c.loop-row.row-index c.args.rows.now c.loop-row-test.false) c.loop-row.invariant,
  λ all. refl,
)
