use Rattle.std.proofs.Common.{◌≡◌, filter, nat_eq, not, take}
use Rattle.std.specs.List.{list_any}
use Rattle.tables_bodies.proofs.sweeping.without_others.Given as goal

-- the numbers so far
abbrev pub invariant-loop-id : goal.invariant-loop-id
invariant-loop-id l = l.left.items ≡ filter (λ id. not (list_any (λ n. nat_eq n id) l.others)) (take l.id-index l.ids)
