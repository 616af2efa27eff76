use Rattle.command_line.proofs.readings.asked.Goals as goal

pub returns : goal.returns
returns c name asks = (asks _ _ c.in_ok-timed.ensures, c.manner.ensures.strict, c.manner.ensures.json)
