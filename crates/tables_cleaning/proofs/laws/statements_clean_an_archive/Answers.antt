use Rattle.tables_cleaning.proofs.CleanedRows.{with_cleaned-cleaned}
use Rattle.tables_cleaning.proofs.laws.statements_clean_an_archive.Goals as goal

pub returns : goal.returns
returns c = with_cleaned-cleaned
