use Rattle.std.proofs.Common.{◌≡◌, take}
use Rattle.std.specs.List.{list_all}
use Rattle.sums.specs.Lines.{is_lower_hex}
use Rattle.sums.proofs.lines.is_lower_hex_text.Given as goal

abbrev pub invariant-loop-c : goal.invariant-loop-c
invariant-loop-c l = l.all ≡ list_all is_lower_hex (take l.c-index l.fn.word)
