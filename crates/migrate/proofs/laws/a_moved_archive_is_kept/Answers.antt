use Rattle.migrate.proofs.MovedArchive.{moved_archive}
use Rattle.migrate.proofs.laws.a_moved_archive_is_kept.Goals as goal

pub returns : goal.returns
returns c = moved_archive
