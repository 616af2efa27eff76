use Rattle.std.proofs.Common.{ap, inl, inr, ◌∙◌, Some}
use Rattle.history.proofs.Runs.{left_before}
use Rattle.history.proofs.laws.a_stop_leaves_a_part_of_a_list.Goals as goal

pub returns : goal.returns
returns g c before after h calls outcomes clean up kept faithful clean_after leaves left may = elim (leaves h kept faithful clean_after left may) [
  | inl was ↦ left_before g.K.Keeper h calls outcomes left (g.met.K.Keeper.settled before left clean up was ∙ ap Some (kept.stands up))
  | inr is ↦ is
]
