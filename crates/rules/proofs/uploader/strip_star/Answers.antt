use Rattle.std.proofs.Common.{arith}
use Rattle.std.proofs.lemmas.Str.Pattern.{strip_suffix_char}
use Rattle.rules.proofs.Division.{before_star_is}
use Rattle.rules.proofs.uploader.strip_star.Goals as goal

pub returns : goal.returns
returns c = before_star_is c.args.text.now _ (strip_suffix_char 42 c.args.text.now _ c.strip_suffix.ensures.cases (omega arith))
