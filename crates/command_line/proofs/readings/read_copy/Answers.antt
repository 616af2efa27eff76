use Rattle.std.specs.Prelude.{codes}
use Rattle.std.proofs.Common.{refl}
use Rattle.command_line.proofs.readings.read_copy.Goals as goal

pub returns : goal.returns
returns c =
    c.asked.ensures (codes "copy") (λ db at timed. (_, refl, (timed.word, timed.moment, c.in_ok-required.ensures, c.in_ok-required-2.ensures, c.in_ok-required-3.ensures)))
