use Rattle.std.proofs.Common.{◌≡◌, take}
use Rattle.std.specs.List.{list_all}
use Rattle.pages.specs.Escapes.{stands_for_itself}
use Rattle.pages.proofs.escape.is_plain.Given as goal

abbrev pub invariant-loop-byte : goal.invariant-loop-byte
invariant-loop-byte l = l.all ≡ list_all stands_for_itself (take l.byte-index l.fn.text)
