use Rattle.rules.proofs.Configs.{unspelled, faulty}
use Rattle.rules.proofs.laws.faults_are_lowest.Goals as goal

pub returns-clause-paragraphs : goal.returns-clause-paragraphs
returns-clause-paragraphs c = unspelled

pub returns-clause-suites : goal.returns-clause-suites
returns-clause-suites c = faulty
