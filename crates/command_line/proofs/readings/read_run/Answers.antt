use Rattle.std.specs.Prelude.{codes}
use Rattle.std.proofs.Common.{refl}
use Rattle.command_line.proofs.readings.read_run.Goals as goal

pub returns : goal.returns
returns c = c.asked.ensures (codes "run") (λ db at timed. (_, refl, (timed.word, timed.moment)))
