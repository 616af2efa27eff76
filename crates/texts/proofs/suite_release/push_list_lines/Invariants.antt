use Rattle.std.proofs.Common.{◌≡◌, ◌++◌, take}
use Rattle.std.specs.List.{flat_map}
use Rattle.para.specs.Printing.{more_text}
use Rattle.indices.specs.Stanzas.{list_line}
use Rattle.texts.proofs.suite_release.push_list_lines.Given as goal

abbrev pub invariant-loop-index : goal.invariant-loop-index
invariant-loop-index l = l.out.items ≡ l.fn.out.items ++ flat_map (λ i. more_text (list_line l.digest i.print i.path)) (take l.index-index l.indices)
