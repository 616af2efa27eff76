use Rattle.records.proofs.RecordRead.{sidecar_of_read, read_of_sidecar, refused_sidecar}
use Rattle.records.proofs.laws.sidecars_are_read.Goals as goal

pub returns-clause-read : goal.returns-clause-read
returns-clause-read c = λ text v. (sidecar_of_read text v, read_of_sidecar text v)

pub returns-clause-refused : goal.returns-clause-refused
returns-clause-refused c = refused_sidecar
