use Rattle.std.proofs.Common.{inl, inr, ap, ◌∙◌, Some}
use Rattle.history.proofs.laws.a_stop_leaves_a_book.Goals as goal

pub returns : goal.returns
returns g c before after h call clean up kept faithful clean_after leaves left may = elim (leaves h kept faithful clean_after left may) [
  | inl was ↦ inl (g.met.K.Keeper.settled before left clean up was ∙ ap Some (kept.stands up))
  | inr made ↦ made
]
