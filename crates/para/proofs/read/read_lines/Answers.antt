use Rattle.std.proofs.Common.{refl, sym, ◌∙◌, ap, subst, arith}
use Rattle.para.specs.Grammar.{lines}
use Rattle.para.specs.Reading.{reading, IsStarted}
use Rattle.para.proofs.Lines.{not_true}
use Rattle.para.proofs.Texts.{clean-lines}
use Rattle.para.proofs.read.read_lines.Goals as goal

pub loop-rest-init : goal.loop-rest-init
loop-rest-init c = record {
  told = ap (λ s. reading s 0 (lines c.args.text.now)) c.new-reader.ensures.start;
  clean = λ e. clean-lines c.args.text.now (sym c.has_refused_byte-is_clean.ensures ∙ not_true _ e);
  started = subst IsStarted (sym c.new-reader.ensures.start) refl;
  names = c.new-reader.ensures.names;
  room = omega arith;
}
