use Rattle.queue.proofs.ReaderLemmas.{Consumes-after_kept}
use Rattle.queue.proofs.reading.read_some.Goals as goal

pub returns-in-Ok-clause-ok : goal.returns-in-Ok-clause-ok
returns-in-Ok-clause-ok g c = Consumes-after_kept _ _ _ _ c.loop.invariant.1 c.in-Ok.ensures.bytes.0
