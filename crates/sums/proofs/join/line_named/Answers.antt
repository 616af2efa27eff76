use Rattle.std.proofs.Common.{◌≡◌, ◌∙◌, sym, ap, true, false}
use Rattle.sums.specs.Lines.{name_word}
use Rattle.std.specs.Str.{bytes_eq}
use Rattle.sums.specs.Views.{line_form}
use Rattle.sums.proofs.Files.{find_from}
use Rattle.sums.proofs.join.line_named.Goals as goal

pub returns-then-eq : goal.returns-then-eq
returns-then-eq c =
    let here : bytes_eq (name_word (line_form c.args.form) c.line-item.result) c.args.name.now ≡ true =
    ap (λ w. bytes_eq w c.args.name.now) (sym c.word.ensures) ∙ (sym c.eq.ensures ∙ c.if-eq.true) in
    find_from (λ line. bytes_eq (name_word (line_form c.args.form) line) c.args.name.now) c.args.lines.now c.loop-line.line-index c.line-item.result true c.loop-line-test.true c.line-item.is here ∙ c.loop-line.invariant

pub loop-line-preserved : goal.loop-line-preserved
loop-line-preserved c =
    let here : bytes_eq (name_word (line_form c.args.form) c.line-item.result) c.args.name.now ≡ false =
    ap (λ w. bytes_eq w c.args.name.now) (sym c.word.ensures) ∙ (sym c.eq.ensures ∙ c.if-eq.false) in
    find_from (λ line. bytes_eq (name_word (line_form c.args.form) line) c.args.name.now) c.args.lines.now c.loop-line.line-index c.line-item.result false c.loop-line-test.true c.line-item.is here ∙ c.loop-line.invariant
