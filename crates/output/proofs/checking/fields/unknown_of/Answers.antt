use Rattle.std.proofs.Common.{◌++◌, ◌+◌, drop, append_assoc, ap, sym, ◌∙◌, arith}
use Rattle.std.proofs.lemmas.List.{append-nil, drop_more, drop_all}
use Rattle.para.specs.Fields.{Fields}
use Rattle.output.specs.Fields.{unknown_among, unknown_behind}
use Rattle.output.proofs.checking.fields.unknown_of.Goals as goal

pub loop-number-preserved : goal.loop-number-preserved
loop-number-preserved c =
    let number = c.loop-number.number in
    let paragraphs = c.args.paragraphs.now in
    let found = c.loop-number.found.items in
    let behind = unknown_behind (number + 1) (drop (number + 1) paragraphs) in
    (λ i. c.in_ok-push_unknown.ensures i ++ behind)
    ∙ ap (λ (fields : Fields). (found ++ unknown_among number fields) ++ behind) (c.fields.ensures ∙ c.index-paragraphs-number.is)
    ∙ append_assoc found _ behind
    ∙ ap (λ more. found ++ more) (sym (ap (unknown_behind number) (drop_more paragraphs number c.index-paragraphs-number.result (omega arith))))
    ∙ c.loop-number.invariant

pub returns : goal.returns
returns c =
    let number = c.loop-number.number in
    let found = c.loop-number.found.items in
    sym (append-nil found)
    ∙ ap (λ rest. found ++ unknown_behind number rest) (sym (drop_all number c.args.paragraphs.now (omega arith)))
    ∙ c.loop-number.invariant
