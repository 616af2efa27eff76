-- Values in groups, by name.
use Rattle.std.specs.Prelude.{List, [], Option, Some, None}
use Rattle.std.specs.declared.alloc.Global.{Global}
use Rattle.std.specs.declared.vec.Vec.{Vec}

-- what a group has; nothing if there is no group
abbrev pub group_in : {X : Type 0} → Option (Vec X Global) → List X
group_in None = []
group_in (Some group) = group.items
