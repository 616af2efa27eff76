use Rattle.std.proofs.Common.{◌≡◌, map, take}
use Rattle.lists.specs.Lists.{asked_by_lines, bytes_of}
use Rattle.lists.proofs.list.requests_of.Given as goal

-- the lines so far
abbrev pub invariant-loop-line : goal.invariant-loop-line
invariant-loop-line l = map bytes_of l.requests.items ≡ asked_by_lines (map (λ line. line.now) (take l.line-index l.lines))
