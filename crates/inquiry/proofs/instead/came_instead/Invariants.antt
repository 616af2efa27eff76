use Rattle.std.proofs.Common.{◌≡◌, map, take}
use Rattle.inquiry.specs.Instead.{came_in}
use Rattle.inquiry.proofs.instead.came_instead.Given as goal

abbrev pub invariant-loop-lack : goal.invariant-loop-lack
invariant-loop-lack l = l.all.items ≡ map (came_in l.counting l.named) (take l.lack-index l.lacks)
