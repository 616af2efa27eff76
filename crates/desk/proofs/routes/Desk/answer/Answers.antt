-- A large file was sent after what asked for it was read.
use Rattle.desk.proofs.FileLemmas.{answered_file}
use Rattle.desk.proofs.routes.Desk.answer.Goals as goal

pub returns-in-Ok-Some-Pieces-clause-answered : goal.returns-in-Ok-Some-Pieces-clause-answered
returns-in-Ok-Some-Pieces-clause-answered g c =
    let asked = rw (c.in-Ok-Some-Pieces.field-0-is, c.in-Ok-Some-Pieces.field-0-0-is) at c.in-Ok-Some-Pieces.ensures.ok in
    answered_file g.K.Keeper _ _ _ _ _ _ _ c.args.moment c.in-Ok-Some-Pieces.file c.send_file.result asked c.send_file.ensures.reads c.send_file.ensures.sent
