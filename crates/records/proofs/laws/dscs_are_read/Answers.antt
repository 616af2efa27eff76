use Rattle.records.proofs.RecordRead.{dsc_of_read, read_of_dsc, read_more_dsc, refused_dsc}
use Rattle.records.proofs.laws.dscs_are_read.Goals as goal

pub returns-clause-read : goal.returns-clause-read
returns-clause-read c = λ most text v. (dsc_of_read most text v, read_of_dsc most text v)

pub returns-clause-refused : goal.returns-clause-refused
returns-clause-refused c = refused_dsc

pub returns-clause-more : goal.returns-clause-more
returns-clause-more c = read_more_dsc
