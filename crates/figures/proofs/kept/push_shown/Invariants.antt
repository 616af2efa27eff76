use Rattle.std.proofs.Common.{◌≡◌, ◌++◌, map}
use Rattle.suites.specs.Pool.{files_of}
use Rattle.figures.proofs.kept.push_shown.Given as goal

abbrev pub invariant-loop-item : goal.invariant-loop-item
invariant-loop-item l = l.prints.items ≡ l.fn.prints.items ++ map (λ f. f.1) (files_of (map (λ e. e.1.now) l.yielded))
