-- The number of the digits so far.
use Rattle.std.proofs.Common.{◌≡◌, take}
use Rattle.std.specs.Str.Parse.{digits_value}
use Rattle.desk.proofs.head.read_length.Given as goal

abbrev pub invariant-loop-digit : goal.invariant-loop-digit
invariant-loop-digit l = l.length ≡ digits_value 10 (take l.digit-index l.text)
