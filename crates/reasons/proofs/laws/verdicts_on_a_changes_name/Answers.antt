use Rattle.rules.specs.Judgement.{has_foreign_architecture, has_foreign_component, suite_of}
use Rattle.reasons.specs.Reasons.{named_architecture, named_component}
use Rattle.reasons.proofs.Rows.{a_component, a_listing, an_architecture, at_suite}
use Rattle.reasons.proofs.laws.verdicts_on_a_changes_name.Goals as goal

pub returns-clause-architecture : goal.returns-clause-architecture
returns-clause-architecture g = λ config shelves u. at_suite (has_foreign_architecture u.changes) (named_architecture u.changes) (an_architecture u.changes) (suite_of config u.changes)

pub returns-clause-component : goal.returns-clause-component
returns-clause-component g = λ config shelves u. at_suite (has_foreign_component u.changes) (named_component u.changes) (a_component u.changes) (suite_of config u.changes)

pub returns-clause-listing : goal.returns-clause-listing
returns-clause-listing g = λ config shelves u. a_listing u.changes
