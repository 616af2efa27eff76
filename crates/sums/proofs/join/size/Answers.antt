use Rattle.std.proofs.Common.{◌∙◌, sym, ap}
use Rattle.std.specs.Result.{is_ok}
use Rattle.sums.proofs.SizeTexts.{size_parsed}
use Rattle.sums.specs.Lines.{greatest_size}
use Rattle.sums.proofs.join.size.Goals as goal

pub unwrap-requires : goal.unwrap-requires
unwrap-requires c = ap is_ok (size_parsed greatest_size c.args.word.now c.parse.result c.requires c.parse.ensures.value.0)

pub returns : goal.returns
returns c = cc (sym c.unwrap.ensures ∙ size_parsed greatest_size c.args.word.now c.parse.result c.requires c.parse.ensures.value.0)
