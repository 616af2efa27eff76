use Rattle.std.proofs.Common.{◌≡◌, ◌++◌}
use Rattle.std.specs.BTreeMap.{get_by_text}
use Rattle.tree.specs.Tree.{is_new}
use Rattle.tree.proofs.Loops.{placed}
use Rattle.tree.proofs.steps.placed_new.Given as goal

-- with the steps for what has not been looked at
abbrev pub invariant-loop-path : goal.invariant-loop-path
invariant-loop-path l = l.steps.items ++ placed (is_new (get_by_text l.there)) l.path-iterator ≡ placed (is_new (get_by_text l.there)) l.fn.files.entries
