use Rattle.records.proofs.RecordRead.{changes_of_read}
use Rattle.inquiry.proofs.reading.read_changes.Goals as goal

pub returns-in-Ok-clause-apart : goal.returns-in-Ok-clause-apart
returns-in-Ok-clause-apart g c = (changes_of_read _ c.deref.result.now c.in-Ok.changes c.in-Ok.ensures.read).made.entries.listed.names
