use Rattle.keep_tables.specs.AtHand.{AreRenewedAtMost}
use Rattle.keep_tables.proofs.text_prints.renew_prints.Given as goal

abbrev pub invariant-loop-text : goal.invariant-loop-text
invariant-loop-text l = AreRenewedAtMost l.fn.prints.items l.texts l.prints.items
