use Rattle.std.proofs.Common.{◌∙◌, sym, ap, subst, arith}
use Rattle.suites.specs.Judging.{IsBinaryPart, is_bad_sidecar, part_of}
use Rattle.suites.specs.declared.upload.Part.{Part}
use Rattle.suites.proofs.Refusals.{none_case, some_case, one_is_bad, one_more_sidecar}
use Rattle.suites.proofs.verdict.binary_parts.Goals as goal

pub returns-in-None : goal.returns-in-None
returns-in-None c =
    one_is_bad c.args.changes.now c.args.parts.now c.loop-part.part-index c.part-item.result (omega arith)
    (ap (λ (p : Part). is_bad_sidecar c.args.changes.now (part_of p)) (sym c.part-item.is) ∙ none_case c.in_ok-binary.field-0 _ _ c.in_ok-binary.ensures c.in-None.is)

pub loop-part-preserved : goal.loop-part-preserved
loop-part-preserved c =
    one_more_sidecar c.args.changes.now c.args.parts.now c.loop-part.part-index c.part-item.result c.loop-part.binaries.items c.push.new.self.items c.in-Some.binary (omega arith)
    c.loop-part.invariant
    (subst (λ (p : Part). IsBinaryPart c.args.changes.now (part_of p) c.in-Some.binary) c.part-item.is (some_case c.in_ok-binary.field-0 _ _ c.in-Some.binary c.in_ok-binary.ensures c.in-Some.is))
    c.in_ok-push-in-Some.ensures.items
