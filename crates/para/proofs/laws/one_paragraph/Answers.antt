use Rattle.para.proofs.InText.{spelled_fields, fields_spelled, fields_fault, fault_fields, none_spelled_one}
use Rattle.para.proofs.laws.one_paragraph.Goals as goal

pub returns-clause-ok : goal.returns-clause-ok
returns-clause-ok c = λ text limit p. (spelled_fields text limit p, fields_spelled text limit p)

pub returns-clause-err : goal.returns-clause-err
returns-clause-err c = λ text limit e. (fields_fault text limit e, fault_fields text limit e)

pub returns-clause-none : goal.returns-clause-none
returns-clause-none c = none_spelled_one
