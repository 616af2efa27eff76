use Rattle.std.proofs.Common.{◌≡◌, map, take}
use Rattle.rules.specs.Uploaders.{rules_in}
use Rattle.rules.proofs.uploader.rules_of.Given as goal

abbrev pub invariant-loop-line : goal.invariant-loop-line
invariant-loop-line l = l.rules.items ≡ rules_in (map (λ w. w.now) (take l.line-index l.lines))
