use Rattle.std.proofs.Common.{inl, inr}
use Rattle.history.proofs.Received.{left_given, none_given}
use Rattle.history.proofs.Runs.{leaves_delivery, leaves_step}
use Rattle.history.proofs.laws.a_crash_is_of_a_call.Goals as goal

pub returns-clause-step : goal.returns-clause-step
returns-clause-step g c = leaves_step g.K.Keeper

pub returns-clause-delivery : goal.returns-clause-delivery
returns-clause-delivery g c = leaves_delivery g.K.Keeper

pub returns-clause-received : goal.returns-clause-received
returns-clause-received g c before after name body rest gives moment leaves h kept faithful clean left may = elim (leaves h kept clean left may) [
  | inl was ↦ inl was
  | inr made ↦ inr (elim made [
    | inl is ↦ inl is
    | inr it ↦ inr (left_given h name body rest gives moment left it faithful)
  ])
]

pub returns-clause-short : goal.returns-clause-short
returns-clause-short g c before after name given gives n moment call few leaves h kept faithful clean left may = elim (leaves h kept clean left may) [
  | inl was ↦ inl was
  | inr made ↦ inr (elim made [
    | inl is ↦ inl is
    | inr it ↦ absurd (none_given given gives n it.body few it.gave_it)
  ])
]
