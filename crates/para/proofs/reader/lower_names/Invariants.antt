use Rattle.std.proofs.Common.{map, take}
use Rattle.para.specs.ReaderState.{AreLowered}
use Rattle.para.proofs.reader.lower_names.Given as goal

-- the names of the fields so far
abbrev pub invariant-loop-field : goal.invariant-loop-field
invariant-loop-field l = AreLowered l.names (map (λ f. f.name.now) (take l.field-index l.fields))
