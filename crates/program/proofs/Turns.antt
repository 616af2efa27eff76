-- Connections that were served within moments, and others after them.
use Rattle.std.proofs.Common.{◌≤◌, ◌+◌, ℕ, List, All, arith}
use Rattle.desk.specs.declared.routes.Rules.{Rules}
use Rattle.desk.specs.Connections.{HasServed, IsClientsWithin, NeverFall, Visit}
use Rattle.desk.proofs.ConnectionLemmas.{two_turns}
use Rattle.book.specs.declared.keeper.Keeper.{Ghosts}

-- a later last moment, and an earlier first one
within : (rules : Rules) (first last from to : ℕ) (v : Visit) → from ≤ first → last ≤ to → IsClientsWithin rules first last v → IsClientsWithin rules from to v
within rules first last from to v early late it = record { desk = it.desk; from_first = omega (arith, it.from_first, early); to_last = omega (arith, it.to_last, late); foreign = it.foreign }

-- connections that are all at one moment
pub at_one_moment : (rules : Rules) (moment : ℕ) (vs : List Visit) → All (IsClientsWithin rules moment moment) vs → NeverFall vs
at_one_moment rules moment vs all = λ i j d below within.
    let earlier = all i d (omega (arith, below, within)) in
    let later = all j d within in
    omega (arith, earlier.to_last, later.from_first)

module _ {K : Type 0} (g : Ghosts K) (rules : Rules) where
  -- one more connection, at the last moment or later
  pub one_more : (served whole first last from next : ℕ) (before mid after : K) → served + 1 ≤ whole → first ≤ last → last ≤ from → from ≤ next
      → HasServed g served (IsClientsWithin rules first last) before mid → HasServed g 1 (IsClientsWithin rules from next) mid after → HasServed g whole (IsClientsWithin rules first next) before after
  one_more served whole first last from next before mid after room up on to sofar one =
      two_turns g served 1 whole (IsClientsWithin rules first last) (IsClientsWithin rules from next) (IsClientsWithin rules first next) before mid after room
      (λ v it. within rules first last first next v (omega arith) (omega (arith, on, to)) it) (λ v it. within rules from next first next v (omega (arith, up, on)) (omega arith) it)
      (λ v w here there. omega (arith, here.to_last, there.from_first, on)) sofar one

  -- the bound on the number of connections may be greater
  pub or_more : (served whole first last : ℕ) (before after : K) → served ≤ whole → HasServed g served (IsClientsWithin rules first last) before after
      → HasServed g whole (IsClientsWithin rules first last) before after
  or_more served whole first last before after room sofar = record {
    visits = sofar.visits;
    number = omega (arith, sofar.number, room);
    fit = sofar.fit;
    rise = sofar.rise;
    lasts = sofar.lasts;
    served = sofar.served;
  }
