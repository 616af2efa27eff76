use Rattle.std.proofs.Common.{ap, ◌∙◌}
use Rattle.std.specs.Option.{option_map}
use Rattle.std.specs.FinMap.{get, from_entries}
use Rattle.suites.specs.Shelves.{pool}
use Rattle.suites.specs.declared.shelves.SharedFile.{SharedFile}
use Rattle.suites.proofs.SharedLemmas.{get-pool}
use Rattle.suites.proofs.shelves.Shelves.file.Goals as goal

pub returns-in-Some : goal.returns-in-Some
returns-in-Some c =
    ap (option_map (λ (f : SharedFile). f.print)) (c.in-Some.ensures.value ∙ c.self.invariant.2 c.args.path.now)
    ∙ get-pool c.args.path.now (from_entries c.self.inside.items.entries)
    ∙ ap (λ v. get (pool v) c.args.path.now) c.self.view_is

pub returns-in-None : goal.returns-in-None
returns-in-None c =
    ap (option_map (λ (f : SharedFile). f.print)) (c.in-None.ensures.value ∙ c.self.invariant.2 c.args.path.now)
    ∙ get-pool c.args.path.now (from_entries c.self.inside.items.entries)
    ∙ ap (λ v. get (pool v) c.args.path.now) c.self.view_is
