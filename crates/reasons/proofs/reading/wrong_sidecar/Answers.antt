use Rattle.std.proofs.Common.{◌∙◌, sym, ap, map}
use Rattle.records.specs.Records.{sidecar_in}
use Rattle.suites.specs.Judging.{part_of}
use Rattle.reasons.specs.Reasons.{named_sidecar, sidecar_among}
use Rattle.reasons.proofs.Searches.{found_at}
use Rattle.reasons.proofs.reading.wrong_sidecar.Goals as goal

pub returns-in-Some : goal.returns-in-Some
returns-in-Some c =
    let changes = c.args.upload.now.changes in
    let part = c.part-item.result in
    sym (found_at (λ p. named_sidecar changes p.0.name (sidecar_in p.1)) part_of c.deref-part-items.result.now c.loop-part.part-index part c.in-Some.named c.loop-part-test.true c.part-item.is
    (ap (λ known. named_sidecar known part.entry.now.name (sidecar_in part.text.now)) (sym c.changes.ensures) ∙ sym c.in_ok-named.ensures ∙ c.in-Some.is))
    ∙ c.loop-part.invariant
    ∙ ap (λ parts. sidecar_among changes (map part_of parts)) c.deref-part-items.ensures.value
    ∙ ap (sidecar_among changes) c.in_ok-parts.ensures
