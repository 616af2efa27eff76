use Rattle.tables_cleaning.proofs.CleanedArchive.{cleaned_archive}
use Rattle.tables_cleaning.proofs.laws.a_cleaned_archive_is_that_of_the_moment.Goals as goal

pub returns : goal.returns
returns c = cleaned_archive
