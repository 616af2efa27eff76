use Rattle.std.proofs.Common.{lit<}
use Rattle.std.proofs.lemmas.Str.Pattern.{split_once_first}
use Rattle.lists.proofs.ListLemmas.{parted_is}
use Rattle.lists.proofs.list.parted.Goals as goal

pub returns : goal.returns
returns c = parted_is c.args.text.now _ (split_once_first 32 c.args.text.now _ c.split_once.ensures.cases (lit< tt))
