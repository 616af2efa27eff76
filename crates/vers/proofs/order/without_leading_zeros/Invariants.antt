use Rattle.std.proofs.Common.{◌≡◌, length, true}
use Rattle.std.specs.Char.{is_ascii_digit}
use Rattle.std.specs.List.{list_all}
use Rattle.std.specs.Str.Parse.{digits_value}
use Rattle.vers.proofs.order.without_leading_zeros.Given as goal

abbrev pub invariant-loop-behind : goal.invariant-loop-behind
invariant-loop-behind l = record {
  value : digits_value 10 l.rest ≡ digits_value 10 l.fn.digits;
  digits : list_all is_ascii_digit l.fn.digits ≡ true → list_all is_ascii_digit l.rest ≡ true;
}

abbrev pub decreases-loop-behind : goal.decreases-loop-behind
decreases-loop-behind l = length l.rest
