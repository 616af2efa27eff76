use Rattle.para.proofs.InText.{spelled_paragraphs, paragraphs_spelled, paragraphs_fault, fault_paragraphs, none_spelled}
use Rattle.para.proofs.laws.several_paragraphs.Goals as goal

pub returns-clause-ok : goal.returns-clause-ok
returns-clause-ok c = λ text limit ps. (spelled_paragraphs text limit ps, paragraphs_spelled text limit ps)

pub returns-clause-err : goal.returns-clause-err
returns-clause-err c = λ text limit e. (paragraphs_fault text limit e, fault_paragraphs text limit e)

pub returns-clause-none : goal.returns-clause-none
returns-clause-none c = none_spelled
