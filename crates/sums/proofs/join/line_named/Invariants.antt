use Rattle.std.proofs.Common.{◌≡◌, drop}
use Rattle.std.specs.List.{find}
use Rattle.sums.specs.Lines.{name_word}
use Rattle.std.specs.Str.{bytes_eq}
use Rattle.sums.specs.Views.{line_form}
use Rattle.sums.proofs.join.line_named.Given as goal

abbrev pub invariant-loop-line : goal.invariant-loop-line
invariant-loop-line l = find (λ line. bytes_eq (name_word (line_form l.form) line) l.name) (drop l.line-index l.lines) ≡ find (λ line. bytes_eq (name_word (line_form l.form) line) l.name) l.lines
