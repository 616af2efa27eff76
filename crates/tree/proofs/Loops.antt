-- The steps that write the files of a map's entries.
use Rattle.std.proofs.Common.{Bool, List, map, filter}
use Rattle.std.specs.Prelude.{String}
use Rattle.std.specs.declared.alloc.Global.{Global}
use Rattle.std.specs.String.{string_bytes}
use Rattle.suites.specs.declared.item.PoolFile.{PoolFile}
use Rattle.suites.specs.declared.shelves.SharedFile.{SharedFile}
use Rattle.tree.specs.declared.steps.Step.{Step}
use Rattle.tree.specs.declared.steps.Step.TheVariants.{Write}

-- the steps for those files that pass
abbrev pub placed : (PoolFile → Bool) → List (String Global × SharedFile) → List Step
placed p es = map Write (filter p (map (λ e. record { path = string_bytes e.0; print = e.1.print }) es))
