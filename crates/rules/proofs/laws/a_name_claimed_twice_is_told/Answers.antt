use Rattle.rules.proofs.Twice.{claimed_twice_is, text_claims_twice}
use Rattle.rules.proofs.laws.a_name_claimed_twice_is_told.Goals as goal

pub returns-clause-paragraphs : goal.returns-clause-paragraphs
returns-clause-paragraphs c = claimed_twice_is

pub returns-clause-text : goal.returns-clause-text
returns-clause-text c = text_claims_twice
