use Rattle.output.proofs.NamedLemmas.{about_named}
use Rattle.output.proofs.explaining.laws.lines_are_on_what_is_named.Goals as goal

pub returns : goal.returns
returns c = about_named
