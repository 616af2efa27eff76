use Rattle.std.proofs.Common.{◌++◌, List, map, string_bytes, ◌∙◌, rules}
use Rattle.std.proofs.lemmas.Slice.Zip.{zip_end, zip_turn}
use Rattle.sums.specs.declared.print.Print.{Print}
use Rattle.book.specs.declared.change.Lack.{Lack}
use Rattle.output.specs.Explaining.Waits.{lack_lines, lacks_lines}
use Rattle.output.proofs.ZipLemmas.{pair_more, pairs_end}
use Rattle.output.proofs.explaining.waits.push_lacks.Goals as goal

pub loop-lack-preserved : goal.loop-lack-preserved
loop-lack-preserved c =
    let turn = zip_turn c.args.lacks.now c.args.came.now c.loop-lack.yielded c.into_iter-lack-iterator.result c.loop-lack.lack-iterator c.next.new.self c.next.result (search rules) (search rules) c.loop-lack.yielded_by (c.in-Some.lack, c.in-Some.prints) c.in-Some.is c.next.ensures.steps in
    pair_more (λ (pair : Lack × List Print). lack_lines pair.0 pair.1) c.args.lacks.now c.args.came.now (map string_bytes c.loop-lack.lines.items)
    (map string_bytes c.args.lines.now.items ++ lacks_lines c.args.lacks.now c.args.came.now) c.loop-lack.yielded
    (c.in-Some.lack, c.in-Some.prints) c.in-Some.lack.now c.in-Some.prints.now (map string_bytes c.push_lack.new.lines.items) c.loop-lack.invariant
    turn.0 turn.1 (turn.2 _) (turn.3 _)
    (c.in_ok-push_lack.ensures ∙ (λ i. map string_bytes c.loop-lack.lines.items ++ lack_lines c.in-Some.lack.now (c.as_slice.ensures i)))

pub returns : goal.returns
returns c =
    pairs_end (λ (pair : Lack × List Print). lack_lines pair.0 pair.1) c.args.lacks.now c.args.came.now (map string_bytes c.loop-lack.lines.items)
    (map string_bytes c.args.lines.now.items ++ lacks_lines c.args.lacks.now c.args.came.now) c.loop-lack.yielded c.loop-lack.invariant
    (zip_end c.args.lacks.now c.args.came.now c.loop-lack.yielded c.into_iter-lack-iterator.result c.loop-lack.lack-iterator c.next.new.self c.next.result (search rules) (search rules) c.loop-lack.yielded_by c.in-None.is c.next.ensures.steps)
