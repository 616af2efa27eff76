use Rattle.std.proofs.Common.{◌≡◌, ◌++◌, string_bytes, take}
use Rattle.std.specs.List.{flat_map}
use Rattle.figures.specs.Printing.{sample_text}
use Rattle.figures.proofs.printing.push_samples.Given as goal

abbrev pub invariant-loop-sample : goal.invariant-loop-sample
invariant-loop-sample l = string_bytes l.out ≡ string_bytes l.fn.out ++ flat_map (sample_text l.figure) (take l.sample-index l.samples)
