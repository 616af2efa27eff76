use Rattle.std.proofs.Common.{◌≡◌, min, take}
use Rattle.std.specs.List.{reduce}
use Rattle.figures.specs.Numbers.{in_state, moments_of}
use Rattle.figures.proofs.waiting.oldest_in.Given as goal

abbrev pub invariant-loop-file : goal.invariant-loop-file
invariant-loop-file l = l.oldest ≡ reduce min (moments_of (in_state l.fn.state l.waiting) (take l.file-index l.arrived))
