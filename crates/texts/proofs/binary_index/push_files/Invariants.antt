use Rattle.std.proofs.Common.{◌≡◌, ◌++◌, take}
use Rattle.std.specs.List.{flat_map}
use Rattle.para.specs.Printing.{paragraph_text}
use Rattle.indices.specs.Stanzas.{file_fields}
use Rattle.texts.proofs.binary_index.push_files.Given as goal

abbrev pub invariant-loop-file : goal.invariant-loop-file
invariant-loop-file l = l.out.items ≡ l.fn.out.items ++ paragraph_text (flat_map file_fields (take l.file-index l.files))
