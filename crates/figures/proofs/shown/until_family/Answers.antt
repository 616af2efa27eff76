use Rattle.std.proofs.Common.{ℕ, Option, List, ◌++◌, ap, ◌∙◌}
use Rattle.std.specs.List.{flat_map}
use Rattle.rules.specs.declared.suite.Suite.{Suite}
use Rattle.figures.specs.Families.{family, labelled_if, until_family, until_samples}
use Rattle.figures.specs.declared.family.Figure.TheVariants as figure
use Rattle.figures.specs.declared.family.Sample.{Sample}
use Rattle.figures.proofs.Steps.{all_taken, spread_more}
use Rattle.figures.proofs.shown.until_family.Goals as goal

pub loop-position-preserved : goal.loop-position-preserved
loop-position-preserved c =
    let suite = c.index-suites-position.result in
    spread_more c.args.suites.now c.loop-position.position suite c.loop-position-test.true c.index-suites-position.is
    (until_samples c.args.dates.now) c.loop-position.samples.items _
    (c.in_ok-push_labelled_if.ensures
    ∙ ap (λ (name : List ℕ). c.loop-position.samples.items ++ labelled_if name c.end_at-end.result) c.as_str.ensures
    ∙ ap (λ (end : Option ℕ). c.loop-position.samples.items ++ labelled_if suite.codename end) c.end_at-end.ensures)
    c.loop-position.invariant

pub returns : goal.returns
unfolding until_family
returns c =
    c.new.ensures
    ∙ ap (λ (samples : List Sample). family figure.Until samples)
    (c.loop-position.invariant ∙ ap (λ (xs : List (ℕ × Suite)). flat_map (until_samples c.args.dates.now) xs) (all_taken c.args.suites.now c.loop-position.position c.loop-position-test.false))
