use Rattle.std.proofs.Common.{ap, inl, inr, ◌∙◌, Some}
use Rattle.desk.proofs.ConnectionLemmas.{among_none}
use Rattle.desk.proofs.laws.a_stop_leaves_the_first_connections.Goals as goal

pub returns : goal.returns
returns g c before after visits served h clean up kept faithful clean_after left may = elim (served.crash h kept faithful clean_after left may) [
  | inl was ↦ among_none g.K.Keeper h visits served.courses left (g.met.K.Keeper.settled before left clean up was ∙ ap Some (kept.stands up))
  | inr is ↦ is
]
