use Rattle.std.proofs.Common.{ℕ, List, ◌++◌, ◌∷◌, [], map, ap, ◌∙◌}
use Rattle.rules.specs.declared.suite.Suite.{Suite}
use Rattle.figures.specs.Families.{items_family, items_sample, family}
use Rattle.figures.specs.declared.family.Figure.TheVariants as figure
use Rattle.figures.specs.declared.family.Sample.{Sample}
use Rattle.figures.proofs.Steps.{all_taken, mapped_more}
use Rattle.figures.proofs.shown.items_family.Goals as goal

pub loop-position-preserved : goal.loop-position-preserved
loop-position-preserved c =
    mapped_more c.args.suites.now c.loop-position.position c.index-suites-position.result c.loop-position-test.true c.index-suites-position.is
    (items_sample c.args.shelves.now) c.loop-position.samples.items _
    (c.in_ok-push.ensures.items ∙ ap (λ (s : Sample). c.loop-position.samples.items ++ s ∷ []) c.in_ok-items_sample.ensures)
    c.loop-position.invariant

pub returns : goal.returns
unfolding items_family
returns c =
    c.new.ensures
    ∙ ap (λ (samples : List Sample). family figure.Items samples)
    (c.loop-position.invariant ∙ ap (λ (xs : List (ℕ × Suite)). map (items_sample c.args.shelves.now) xs) (all_taken c.args.suites.now c.loop-position.position c.loop-position-test.false))
