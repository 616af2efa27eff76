use Rattle.rules.specs.Sizes.{largest}
use Rattle.reasons.proofs.Rows.{a_dsc, a_missing_file, a_sidecar, a_taken_file}
use Rattle.reasons.proofs.laws.verdicts_on_files_name.Goals as goal

pub returns-clause-dsc : goal.returns-clause-dsc
returns-clause-dsc g = λ config shelves u. a_dsc (largest config) u

pub returns-clause-sidecar : goal.returns-clause-sidecar
returns-clause-sidecar g = λ config shelves u. a_sidecar u

pub returns-clause-missing : goal.returns-clause-missing
returns-clause-missing g = λ config shelves u. a_missing_file shelves u

pub returns-clause-contents : goal.returns-clause-contents
returns-clause-contents g = λ config shelves u. a_taken_file shelves u
