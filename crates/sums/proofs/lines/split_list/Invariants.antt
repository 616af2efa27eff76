use Rattle.std.proofs.Common.{map, take}
use Rattle.sums.specs.Views.{IsSplit, line_form}
use Rattle.sums.proofs.lines.split_list.Given as goal

abbrev pub invariant-loop-text : goal.invariant-loop-text
invariant-loop-text l = IsSplit l.most l.fn.before (line_form l.form) (map (λ text. text.now) (take l.text-index l.texts)) l.failed l.lines.items
