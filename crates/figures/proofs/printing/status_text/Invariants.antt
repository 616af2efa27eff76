use Rattle.std.proofs.Common.{◌≡◌, string_bytes, take}
use Rattle.std.specs.List.{flat_map}
use Rattle.figures.specs.Printing.{status_lines}
use Rattle.figures.proofs.printing.status_text.Given as goal

abbrev pub invariant-loop-family : goal.invariant-loop-family
invariant-loop-family l = string_bytes l.text ≡ flat_map status_lines (take l.family-index l.families)
