use Rattle.rules.proofs.Configs.{one_config}
use Rattle.rules.proofs.laws.one_configuration.Goals as goal

pub returns : goal.returns
returns c = one_config
