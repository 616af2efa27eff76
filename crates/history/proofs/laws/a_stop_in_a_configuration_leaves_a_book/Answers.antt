use Rattle.std.proofs.Common.{inl, inr, ap, ◌∙◌, Some}
use Rattle.history.proofs.laws.a_stop_in_a_configuration_leaves_a_book.Goals as goal

pub returns : goal.returns
returns g c before after h config moment clean up kept clean_after leaves left may = elim (leaves h kept clean_after left may) [
  | inl was ↦ inl (g.met.K.Keeper.settled before left clean up was ∙ ap Some (kept.stands up))
  | inr made ↦ inr made
]
