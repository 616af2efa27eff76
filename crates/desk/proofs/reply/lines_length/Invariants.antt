-- The length of the lines so far.
use Rattle.std.proofs.Common.{◌≡◌, ◌≤◌, ◌*◌, ◌^◌, take, length, string_bytes}
use Rattle.std.specs.List.{flat_map}
use Rattle.desk.specs.Reply.{line}
use Rattle.desk.proofs.reply.lines_length.Given as goal

abbrev pub invariant-loop-line : goal.invariant-loop-line
invariant-loop-line l = record {
  value : l.length ≡ length (flat_map (λ text. line (string_bytes text)) (take l.line-index l.lines));
  bound : l.length ≤ l.line-index * 2 ^ 64;
}
