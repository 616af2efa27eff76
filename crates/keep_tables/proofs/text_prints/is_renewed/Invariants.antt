use Rattle.std.proofs.Common.{◌≡◌, drop}
use Rattle.keep_tables.specs.AtHand.{is_renewed}
use Rattle.keep_tables.proofs.text_prints.is_renewed.Given as goal

abbrev pub invariant-loop-text : goal.invariant-loop-text
invariant-loop-text l = is_renewed (drop l.text-index l.texts) l.path ≡ is_renewed l.texts l.path
