use Rattle.std.proofs.Common.{refl}
use Rattle.std.specs.Fmt.{digits}
use Rattle.figures.specs.Families.{name_of, help_of, type_of, label_of, word_of}
use Rattle.figures.specs.Printing.{comment_text, family_text, label_text, sample_text, status_line, status_lines, value_text}
use Rattle.figures.proofs.laws.an_example_is_written_so.Goals as goal

pub returns-clause-metrics : goal.returns-clause-metrics
unfolding digits name_of help_of type_of label_of comment_text family_text label_text sample_text
returns-clause-metrics c = refl

pub returns-clause-status : goal.returns-clause-status
unfolding digits word_of status_line status_lines value_text
returns-clause-status c = refl
