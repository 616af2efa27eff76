use Rattle.std.proofs.Common.{sym, ap, ◌∙◌}
use Rattle.std.specs.FinMap.{values}
use Rattle.suites.specs.Counts.{shared_at}
use Rattle.suites.specs.Pool.{files_of}
use Rattle.suites.proofs.SharedLemmas.{count-shared_at, count-unshared}
use Rattle.suites.proofs.shelves.Shelves.references.Goals as goal

pub returns-in-Some : goal.returns-in-Some
returns-in-Some c =
    count-shared_at c.args.path.now (files_of (values c.args.self.now)) c.in-Some.file.now
    (ap (λ v. shared_at c.args.path.now (files_of (values v))) (sym c.self.view_is) ∙ sym (c.self.invariant.2 c.args.path.now) ∙ sym c.in-Some.ensures.value)

pub returns-in-None : goal.returns-in-None
returns-in-None c =
    count-unshared c.args.path.now (files_of (values c.args.self.now))
    (ap (λ v. shared_at c.args.path.now (files_of (values v))) (sym c.self.view_is) ∙ sym (c.self.invariant.2 c.args.path.now) ∙ sym c.in-None.ensures.value)
