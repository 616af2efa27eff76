use Rattle.rules.proofs.Division.{divided_is}
use Rattle.rules.proofs.uploader.divide.Goals as goal

pub returns : goal.returns
returns c = divided_is c.args.line.now _ c.split_once.ensures.cases
