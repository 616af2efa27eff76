use Rattle.std.proofs.Common.{◌≡◌, ◌∙◌, ◌++◌, ap, map, filter, IfOk}
use Rattle.std.specs.BTreeMap.{get_by_text}
use Rattle.std.proofs.lemmas.Result.{IfOk-weaker}
use Rattle.tree.specs.Files.{pool_files}
use Rattle.tree.specs.Planned.{planned}
use Rattle.tree.specs.Tree.{is_new, is_other}
use Rattle.tree.specs.declared.steps.Step.TheVariants.{Write}
use Rattle.tree.proofs.Plans.{whole_at_each, goes_on_at_each, found_at_each, placed_in_the_end, shown_in_the_end, gone_in_the_end, rest_at_each, needed_alone}
use Rattle.tree.proofs.PoolFiles.{pool_agrees}
use Rattle.tree.proofs.planning.plan.Goals as goal

-- the steps of the four kinds, one kind after the other, are what is planned
as_planned : (c : goal.After-in_order) → IfOk c.in_order.result (λ steps. steps.items ≡ planned (get_by_text c.args.there.now) (pool_files c.args.shelves.now) c.args.suites.now c.args.left.now)
as_planned c =
    let there = get_by_text c.args.there.now in
    let new = c.in_ok-new.ensures ∙ ap (λ fs. map Write (filter (is_new there) fs)) c.files_of-files.ensures in
    let over = c.in_ok-over.ensures ∙ ap (λ fs. map Write (filter (is_other there) fs)) c.files_of-files.ensures in
    IfOk-weaker c.in_order.result _ _ (λ steps made. made ∙ (λ i. ((new i ++ over i) ++ c.in_ok-shown.ensures i) ++ c.in_ok-removed.ensures i)) c.in_order.ensures

pub returns-clause-steps : goal.returns-clause-steps
returns-clause-steps c = as_planned c

pub returns-clause-whole : goal.returns-clause-whole
returns-clause-whole c =
    IfOk-weaker c.in_order.result _ _ (λ steps is. whole_at_each (get_by_text c.args.there.now) (pool_files c.args.shelves.now) c.args.suites.now c.args.left.now steps.items is (pool_agrees c.args.shelves.now))
    (as_planned c)

pub returns-clause-goes_on : goal.returns-clause-goes_on
returns-clause-goes_on c =
    IfOk-weaker c.in_order.result _ _ (λ steps is. goes_on_at_each (get_by_text c.args.there.now) (pool_files c.args.shelves.now) c.args.suites.now c.args.left.now steps.items is (pool_agrees c.args.shelves.now))
    (as_planned c)

pub returns-clause-found : goal.returns-clause-found
returns-clause-found c =
    IfOk-weaker c.in_order.result _ _ (λ steps is. found_at_each (get_by_text c.args.there.now) (pool_files c.args.shelves.now) c.args.suites.now c.args.left.now steps.items is (pool_agrees c.args.shelves.now))
    (as_planned c)

pub returns-clause-placed : goal.returns-clause-placed
returns-clause-placed c =
    IfOk-weaker c.in_order.result _ _ (λ steps is. placed_in_the_end (get_by_text c.args.there.now) (pool_files c.args.shelves.now) c.args.suites.now c.args.left.now steps.items is (pool_agrees c.args.shelves.now))
    (as_planned c)

pub returns-clause-shown : goal.returns-clause-shown
returns-clause-shown c =
    IfOk-weaker c.in_order.result _ _ (λ steps is. shown_in_the_end (get_by_text c.args.there.now) (pool_files c.args.shelves.now) c.args.suites.now c.args.left.now steps.items is)
    (as_planned c)

pub returns-clause-gone : goal.returns-clause-gone
returns-clause-gone c =
    IfOk-weaker c.in_order.result _ _ (λ steps is. gone_in_the_end (get_by_text c.args.there.now) (pool_files c.args.shelves.now) c.args.suites.now c.args.left.now steps.items is)
    (as_planned c)

pub returns-clause-rest : goal.returns-clause-rest
returns-clause-rest c =
    IfOk-weaker c.in_order.result _ _ (λ steps is. rest_at_each (get_by_text c.args.there.now) (pool_files c.args.shelves.now) c.args.suites.now c.args.left.now steps.items is)
    (as_planned c)

pub returns-clause-needed : goal.returns-clause-needed
returns-clause-needed c =
    IfOk-weaker c.in_order.result _ _ (λ steps is. needed_alone (get_by_text c.args.there.now) (pool_files c.args.shelves.now) c.args.suites.now c.args.left.now steps.items is)
    (as_planned c)
