use Rattle.std.proofs.Common.{◌++◌, [], take, arith, ap, sym, ◌∙◌}
use Rattle.std.specs.List.{flat_map}
use Rattle.std.proofs.lemmas.List.{take_all, take_more, flat_map_more}
use Rattle.suites.specs.Plan.{references_of, references}
use Rattle.suites.proofs.admission.references.Goals as goal

pub loop-key-preserved : goal.loop-key-preserved
loop-key-preserved c =
    c.in_ok-push_references.ensures
    ∙ (λ i. c.loop-key.invariant i ++ references_of (c.loop-key-item.is i))
    ∙ flat_map_more references_of [] (take c.loop-key.key-index c.args.entries.now) _
    ∙ ap (flat_map references_of) (sym (take_more c.args.entries.now c.loop-key.key-index c.loop-key-item.result (omega arith)))

pub returns : goal.returns
unfolding references
returns c = c.loop-key.invariant ∙ ap (flat_map references_of) (take_all c.loop-key.key-index c.args.entries.now (omega arith))
