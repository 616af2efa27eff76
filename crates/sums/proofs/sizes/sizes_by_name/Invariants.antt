use Rattle.std.proofs.Common.{map, take}
use Rattle.sums.specs.Views.{AreSizes, in_names}
use Rattle.sums.proofs.sizes.sizes_by_name.Given as goal

abbrev pub invariant-loop-file : goal.invariant-loop-file
invariant-loop-file l = AreSizes l.sizes (map in_names (take l.file-index l.files))
