use Rattle.std.proofs.Common.{◌∙◌, ap, sym, refl, map}
use Rattle.suites.specs.Judging.{part_of}
use Rattle.suites.specs.Verdict.{have_twins}
use Rattle.suites.proofs.Refusals.{none_case, some_case, sidecar_refused, twins_refused, sidecars_good}
use Rattle.suites.proofs.verdict.binaries_of.Goals as goal

pub returns-in_default : goal.returns-in_default
returns-in_default c = (
  refl,
  sidecar_refused c.args.upload.now c.changes.result.now c.deref.result.now c.changes.ensures (ap (map part_of) c.deref.ensures.value ∙ c.in_ok-parts.ensures)
      (none_case c.in_ok-binaries.field-0 _ _ c.in_ok-binaries.ensures c.in_default.is),
)

pub returns-then-have_twins : goal.returns-then-have_twins
returns-then-have_twins c = (
  refl,
  twins_refused c.args.upload.now c.changes.result.now c.deref.result.now c.in-Some.binaries.items (ap (map part_of) c.deref.ensures.value ∙ c.in_ok-parts.ensures)
      (some_case c.in_ok-binaries.field-0 _ _ c.in-Some.binaries c.in_ok-binaries.ensures c.in-Some.is)
      (ap (λ bs. have_twins (map (λ b. b.sidecar) bs)) (sym c.deref-2.ensures.value) ∙ sym c.have_twins.ensures ∙ c.if-have_twins.true),
)

pub returns : goal.returns
returns c =
    sidecars_good c.args.upload.now c.changes.result.now c.deref.result.now c.in-Some.binaries.items c.changes.ensures (ap (map part_of) c.deref.ensures.value ∙ c.in_ok-parts.ensures)
    (some_case c.in_ok-binaries.field-0 _ _ c.in-Some.binaries c.in_ok-binaries.ensures c.in-Some.is)
    (ap (λ bs. have_twins (map (λ b. b.sidecar) bs)) (sym c.deref-2.ensures.value) ∙ sym c.have_twins.ensures ∙ c.if-have_twins.false)
