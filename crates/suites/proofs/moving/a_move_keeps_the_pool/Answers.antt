use Rattle.suites.proofs.MovedLemmas.{pool_moved, sound_moved, told_moved}
use Rattle.suites.proofs.moving.a_move_keeps_the_pool.Goals as goal

pub returns-clause-pool : goal.returns-clause-pool
returns-clause-pool c old new shown apart stay sound = pool_moved old new apart shown stay sound.agreed

pub returns-clause-told : goal.returns-clause-told
returns-clause-told c old new shown apart stay told = told_moved old new apart shown stay old told

pub returns-clause-sound : goal.returns-clause-sound
returns-clause-sound c old new shown apart sound = sound_moved old new apart shown sound
