use Rattle.rules.proofs.Configs.{is_config, config_is_in, none_is_config}
use Rattle.rules.proofs.laws.configurations_are_read.Goals as goal

pub returns-clause-read : goal.returns-clause-read
returns-clause-read c = λ text config. (is_config text config, config_is_in text config)

pub returns-clause-refused : goal.returns-clause-refused
returns-clause-refused c = none_is_config
