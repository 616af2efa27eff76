use Rattle.std.proofs.Common.{inr}
use Rattle.old_book.proofs.old.OldBook.read.Goals as goal

pub returns-in-Ok-None-clause-refused : goal.returns-in-Ok-None-clause-refused
returns-in-Ok-None-clause-refused g c none clean = inr (c.in-Ok-None.ensures.none clean c.in-Ok-None.field-0-is)
