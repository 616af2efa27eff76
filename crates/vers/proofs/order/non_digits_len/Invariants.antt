use Rattle.std.proofs.Common.{◌≡◌, ℕ, ◌<◌, get_or, true}
use Rattle.vers.specs.Order.{is_non_digit}
use Rattle.vers.proofs.order.non_digits_len.Given as goal

abbrev pub invariant-loop-i : goal.invariant-loop-i
invariant-loop-i l = (k : ℕ) → k < l.i → is_non_digit (get_or l.bytes k 0) ≡ true
