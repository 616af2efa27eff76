use Rattle.std.proofs.Common.{ap, ◌∙◌}
use Rattle.exported.specs.Names.{have_pool_paths}
use Rattle.exported.proofs.PathLemmas.{removed}
use Rattle.exported.proofs.manifest.Manifest.forget.Goals as goal

pub invariant_of-self : goal.invariant_of-self
invariant_of-self c = record { within = ap have_pool_paths c.remove.ensures.entries ∙ removed _ c.args.self.now.words.entries c.args.self.now.within }
