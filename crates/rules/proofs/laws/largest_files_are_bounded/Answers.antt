use Rattle.rules.proofs.Sizes.{largest-least, largest-greatest}
use Rattle.rules.proofs.laws.largest_files_are_bounded.Goals as goal

pub returns-clause-least : goal.returns-clause-least
returns-clause-least c = largest-least

pub returns-clause-greatest : goal.returns-clause-greatest
returns-clause-greatest c = largest-greatest
