use Rattle.std.specs.Prelude.{codes}
use Rattle.std.proofs.Common.{refl}
use Rattle.command_line.proofs.readings.read_promote.Goals as goal

pub returns : goal.returns
returns c =
    c.asked.ensures (codes "promote") (λ db at timed. (_, refl, (timed.word, timed.moment, c.in_ok-from.ensures, c.in_ok-to.ensures, c.in_ok-sources.ensures)))
