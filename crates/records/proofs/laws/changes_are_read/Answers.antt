use Rattle.records.proofs.RecordRead.{changes_of_read, read_of_changes, read_more_changes, refused_changes}
use Rattle.records.proofs.laws.changes_are_read.Goals as goal

pub returns-clause-read : goal.returns-clause-read
returns-clause-read c = λ most text v. (changes_of_read most text v, read_of_changes most text v)

pub returns-clause-refused : goal.returns-clause-refused
returns-clause-refused c = refused_changes

pub returns-clause-more : goal.returns-clause-more
returns-clause-more c = read_more_changes
