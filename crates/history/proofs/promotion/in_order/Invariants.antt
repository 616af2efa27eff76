use Rattle.std.proofs.Common.{◌≡◌, map, take}
use Rattle.std.specs.String.{string_bytes}
use Rattle.history.specs.Archives.{each_once}
use Rattle.history.proofs.promotion.in_order.Given as goal

abbrev pub invariant-loop-name : goal.invariant-loop-name
invariant-loop-name l = map string_bytes l.set.keys ≡ each_once (map string_bytes (take l.name-index l.names))
