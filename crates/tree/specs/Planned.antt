-- The steps of an export in their order.
use Rattle.std.specs.Prelude.{ℕ, List, ◌++◌, map, filter, Option}
use Rattle.sums.specs.declared.print.Print.{Print}
use Rattle.suites.specs.declared.item.PoolFile.{PoolFile}
use Rattle.tree.specs.Tree.{is_new, is_other, kept_back}
use Rattle.tree.specs.declared.steps.Step.{Step}
use Rattle.tree.specs.declared.steps.Step.TheVariants.{Write, Show, Remove}

-- first what is new, then what gets other contents, what the suites show, and what is removed
abbrev pub planned : (List ℕ → Option Print) → List PoolFile → List ℕ → List (List ℕ) → List Step
planned there files suites left =
    ((map Write (filter (is_new there) files) ++ map Write (filter (is_other there) files)) ++ map Show suites)
    ++ map Remove (kept_back files left)
