-- Without memory for a desk nothing was read, and memory was short.
use Rattle.std.proofs.Common.{[], Some, refl, sym, ap, inl}
use Rattle.std.proofs.KnownBytes.{Consumes-nil}
use Rattle.desk.specs.Exchange.{Short}
use Rattle.desk.proofs.exchange.answer.Goals as goal

pub returns-in-Ok-clause-answered : goal.returns-in-Ok-clause-answered
returns-in-Ok-clause-answered g c = rw c.in-Ok.ensures at c.answer.ensures.answered

pub returns-in-Err-clause-answered : goal.returns-in-Err-clause-answered
returns-in-Err-clause-answered g c = record {
  course = Short;
  read = record { front = []; read = Consumes-nil _; used = λ bytes used asked front is. (used, refl) };
  leaves = λ past kept clean. kept;
  crash = λ past kept faithful clean left may. inl may;
  written = c.send.ensures Short (ap Some (sym c.to_refusal.ensures));
}
