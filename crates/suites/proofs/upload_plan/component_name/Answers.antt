use Rattle.std.proofs.Common.{◌∙◌, sym, ap, refl, arith, slice_get, length}
use Rattle.std.proofs.lemmas.Option.{slice_get_read}
use Rattle.suites.proofs.Places.{name_at, component_within}
use Rattle.suites.proofs.upload_plan.component_name.Goals as goal

pub returns-in-Some-get : goal.returns-in-Some-get
returns-in-Some-get c =
    let suite = c.in-Some.ensures.lookup in
    let name = c.in-Some-get.ensures.lookup in
    λ changes place.
    c.as_str.ensures
    ∙ name_at c.args.config.now changes c.args.place c.in-Some.suite.now c.in-Some-get.name.now
    (ap (λ suites. slice_get suites c.args.place.suite) (sym c.suites.ensures) ∙ slice_get_read c.suites.result.now (length c.suites.result.now) c.args.place.suite c.in-Some.suite.now refl suite.3.0 suite.1)
    (ap (λ names. slice_get names c.args.place.component) (sym c.as_slice.ensures) ∙ slice_get_read c.as_slice.result.now (length c.as_slice.result.now) c.args.place.component c.in-Some-get.name.now refl name.3.0 name.1)
    place

pub returns-in-None : goal.returns-in-None
returns-in-None c =
    let suite = c.in-Some.ensures.lookup in
    let none = c.in-None.ensures.lookup in
    λ changes place.
    let within = component_within c.args.config.now changes c.args.place c.in-Some.suite.now
    (ap (λ suites. slice_get suites c.args.place.suite) (sym c.suites.ensures) ∙ slice_get_read c.suites.result.now (length c.suites.result.now) c.args.place.suite c.in-Some.suite.now refl suite.3.0 suite.1)
    place in
    let same = ap length c.as_slice.ensures in
    absurd (omega (arith, within, none.3, same))
