use Rattle.std.proofs.Common.{◌≡◌, take, map, string_bytes}
use Rattle.telling.specs.Told.{text_of}
use Rattle.telling.proofs.lines.joined.Given as goal

abbrev pub invariant-loop-line : goal.invariant-loop-line
invariant-loop-line l = l.text.items ≡ text_of (map string_bytes (take l.line-index l.lines))
