use Rattle.std.proofs.Common.{◌∙◌}
use Rattle.tables_meaning.proofs.RisingNumbers.{found_among}
use Rattle.tables_meaning.proofs.numbers.is_among.Goals as goal

pub returns : goal.returns
returns c = c.is_ok.ensures.value ∙ found_among c.args.numbers.now c.args.id c.binary_search.result c.requires c.binary_search.ensures.position
