use Rattle.std.proofs.Common.{◌≡◌, map, take}
use Rattle.migrate.proofs.alike.are_alike_lists.Given as goal

abbrev pub invariant-loop-position : goal.invariant-loop-position
invariant-loop-position g l = map g.T.Compared.compared (take l.position l.ones) ≡ map g.T.Compared.compared (take l.position l.others)
