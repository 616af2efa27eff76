use Rattle.std.proofs.Common.{◌∙◌, ◌++◌, [], ◌∷◌, ap, map, sym, take, get_or, ◌≡◌, rules}
use Rattle.std.proofs.lemmas.List.{map_more, take_all}
use Rattle.sums.specs.Lists.{entry_of_line}
use Rattle.sums.specs.Views.{lines_in}
use Rattle.sums.proofs.join.entries.Goals as goal

pub returns-clause-joined : goal.returns-clause-joined
returns-clause-joined c =
    c.loop-line.invariant
    ∙ ap (map (entry_of_line c.args.lists.kind (lines_in c.args.lists))) (take_all c.loop-line.line-index c.args.lists.files.now c.loop-line-test.false)

pub loop-line-preserved : goal.loop-line-preserved
loop-line-preserved c =
    let join = entry_of_line c.args.lists.kind (lines_in c.args.lists) in
    let i = c.loop-line.line-index in
    let item : c.line-item.result ≡ get_or c.args.lists.files.now i c.line-item.result = search rules in
    c.in_ok-push.ensures.items ∙ ap (λ es. es ++ c.in_ok-joined_entry.field-0 ∷ []) c.loop-line.invariant
    ∙ ap (λ e. map join (take i c.args.lists.files.now) ++ e ∷ []) (c.in_ok-joined_entry.ensures.joined ∙ ap join item)
    ∙ sym (map_more join c.args.lists.files.now i c.line-item.result c.loop-line-test.true)
