use Rattle.std.proofs.Common.{ℕ, subst}
use Rattle.tables.specs.declared.rows.ItemRow.{ItemRow}
use Rattle.tables_audit.specs.Items.{Joins, MayJoin}
use Rattle.tables_audit.proofs.ItemsLemmas.{none_shown, shown_more, stopped_at}
use Rattle.tables_audit.proofs.items.shelves_of.Goals as goal

pub loop-id-init : goal.loop-id-init
loop-id-init c = none_shown c.args.suites.now c.args.refs.now.all.now c.new-shelves.result c.new-shelves.ensures

pub returns-then-not-branch-clause-none : goal.returns-then-not-branch-clause-none
returns-then-not-branch-clause-none c _ =
    stopped_at c.args.suites.now c.args.refs.now.all.now c.args.items.now c.loop-id.id-index c.loop-id-item.result c.loop-id.shelves c.loop-id-test.true c.loop-id.invariant
    (subst (λ (x : ℕ × ItemRow). ¬ MayJoin c.args.suites.now c.args.refs.now.all.now x c.loop-id.shelves) c.loop-id-item.is (c.in_ok-put.ensures.no c.if-not-branch.true))

pub loop-id-preserved : goal.loop-id-preserved
loop-id-preserved c =
    shown_more c.args.suites.now c.args.refs.now.all.now c.args.items.now c.loop-id.id-index c.loop-id-item.result c.loop-id.shelves c.put.new.shelves c.loop-id-test.true c.loop-id.invariant
    (subst (λ (x : ℕ × ItemRow). Joins c.args.suites.now c.args.refs.now.all.now x c.loop-id.shelves c.put.new.shelves) c.loop-id-item.is (c.in_ok-put.ensures.yes c.if-not-branch.false))
