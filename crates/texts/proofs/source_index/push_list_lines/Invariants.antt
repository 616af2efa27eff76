use Rattle.std.proofs.Common.{◌≡◌, ◌++◌, take}
use Rattle.std.specs.List.{flat_map}
use Rattle.para.specs.Printing.{more_text}
use Rattle.indices.specs.Stanzas.{list_line, file_name}
use Rattle.texts.proofs.source_index.push_list_lines.Given as goal

abbrev pub invariant-loop-file : goal.invariant-loop-file
invariant-loop-file l = l.out.items ≡ l.fn.out.items ++ flat_map (λ f. more_text (list_line l.digest f.print (file_name f.path))) (take l.file-index l.files)
