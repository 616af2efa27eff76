use Rattle.std.proofs.Common.{◌≡◌, drop, find}
use Rattle.keep_tables.specs.AtHand.{is_print_of}
use Rattle.keep_tables.proofs.text_prints.known_at.Given as goal

abbrev pub invariant-loop-known : goal.invariant-loop-known
invariant-loop-known l = find (is_print_of l.path) (drop l.known-index l.prints) ≡ find (is_print_of l.path) l.prints
