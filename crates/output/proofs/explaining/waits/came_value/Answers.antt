use Rattle.std.proofs.Common.{◌++◌, List, map, ap, ◌∙◌, rules}
use Rattle.std.proofs.lemmas.Slice.Zip.{zip_end, zip_turn}
use Rattle.serde_json.specs.Data.{Data, array}
use Rattle.serde_json.specs.View.{items_of, view}
use Rattle.serde_json.proofs.Views.{view-Array}
use Rattle.sums.specs.declared.print.Print.{Print}
use Rattle.book.specs.declared.change.Lack.{Lack}
use Rattle.output.specs.Explaining.Waits.{came_items, file_data}
use Rattle.output.proofs.ZipLemmas.{pair_more, pairs_end}
use Rattle.output.proofs.explaining.waits.came_value.Goals as goal

pub loop-lack-init : goal.loop-lack-init
loop-lack-init c = ap (λ vs. map view vs ++ came_items c.args.lacks.now c.args.came.now) c.new-values.ensures.items

pub loop-lack-preserved : goal.loop-lack-preserved
loop-lack-preserved c =
    let turn = zip_turn c.args.lacks.now c.args.came.now c.loop-lack.yielded c.into_iter-lack-iterator.result c.loop-lack.lack-iterator c.next.new.self c.next.result (search rules) (search rules) c.loop-lack.yielded_by (c.in-Some.lack, c.in-Some.prints) c.in-Some.is c.next.ensures.steps in
    pair_more (λ (pair : Lack × List Print). map (file_data pair.0.name) pair.1) c.args.lacks.now c.args.came.now (map view c.loop-lack.values.items)
    (came_items c.args.lacks.now c.args.came.now) c.loop-lack.yielded
    (c.in-Some.lack, c.in-Some.prints) c.in-Some.lack.now c.in-Some.prints.now (map view c.push_came.new.values.items) c.loop-lack.invariant
    turn.0 turn.1 (turn.2 _) (turn.3 _)
    (c.in_ok-push_came.ensures ∙ (λ i. map view c.loop-lack.values.items ++ map (file_data c.in-Some.lack.now.name) (c.as_slice.ensures i)))

pub returns : goal.returns
returns c =
    view-Array c.loop-lack.values
    ∙ ap (λ (ds : List Data). array (items_of ds))
    (pairs_end (λ (pair : Lack × List Print). map (file_data pair.0.name) pair.1) c.args.lacks.now c.args.came.now (map view c.loop-lack.values.items)
    (came_items c.args.lacks.now c.args.came.now) c.loop-lack.yielded c.loop-lack.invariant
    (zip_end c.args.lacks.now c.args.came.now c.loop-lack.yielded c.into_iter-lack-iterator.result c.loop-lack.lack-iterator c.next.new.self c.next.result (search rules) (search rules) c.loop-lack.yielded_by c.in-None.is c.next.ensures.steps))
