use Rattle.std.proofs.Common.{◌∙◌, ap, refl}
use Rattle.std.specs.List.{slice_get}
use Rattle.suites.proofs.Refusals.{none_case, some_case, dsc_refused, dsc_good, no_dsc}
use Rattle.suites.proofs.verdict.source_of.Goals as goal

pub returns-in-Some-2 : goal.returns-in-Some-2
returns-in-Some-2 c =
    dsc_good c.args.most c.args.upload.now c.changes.result.now c.in_ok-parts.parts.items c.in-Some.part.now c.in-Some-2.source c.requires c.changes.ensures c.in_ok-parts.ensures
    (c.in-Some.ensures.value ∙ ap (λ ps. slice_get ps 0) c.deref.ensures.value)
    (some_case c.in_ok-source-in-Some.field-0 _ _ c.in-Some-2.source c.in_ok-source-in-Some.ensures c.in-Some-2.is)

pub returns-in-Some : goal.returns-in-Some
returns-in-Some c = (
  refl,
  dsc_refused c.args.most c.args.upload.now c.changes.result.now c.in_ok-parts.parts.items c.in-Some.part.now c.requires c.changes.ensures c.in_ok-parts.ensures
      (c.in-Some.ensures.value ∙ ap (λ ps. slice_get ps 0) c.deref.ensures.value)
      (none_case c.in_ok-source-in-Some.field-0 _ _ c.in_ok-source-in-Some.ensures c.in-None-2.is),
)

pub returns : goal.returns
returns c = no_dsc c.args.most c.args.upload.now c.in_ok-parts.parts.items c.in_ok-parts.ensures (c.in-None.ensures.value ∙ ap (λ ps. slice_get ps 0) c.deref.ensures.value)
