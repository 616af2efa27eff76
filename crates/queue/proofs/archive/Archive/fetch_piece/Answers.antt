use Rattle.std.specs.Prelude.{⊤}
use Rattle.std.proofs.lemmas.Result.{err_from_is_err_and}
use Rattle.history.proofs.StepAnswers.{keepers_own}
use Rattle.queue.proofs.archive.Archive.fetch_piece.Goals as goal

pub returns-in_err-file_piece-clause-refused : goal.returns-in_err-file_piece-clause-refused
returns-in_err-file_piece-clause-refused g c =
    let p = err_from_is_err_and c.from_residual.result c.from_residual.ensures.1 in
    rw p.1 (keepers_own g.K.Keeper.may_fail ⊤ c.in_err-file_piece.field-0.0 p.0 p.2 c.in_err-file_piece.ensures.cause tt)

pub returns-in_err-file_piece-clause-reads : goal.returns-in_err-file_piece-clause-reads
returns-in_err-file_piece-clause-reads g c = c.in_err-file_piece.ensures.reads

pub returns-clause-reads : goal.returns-clause-reads
returns-clause-reads g c = c.in_ok-file_piece.ensures.reads
