use Rattle.std.proofs.Common.{◌∙◌, Err, ap, string_bytes}
use Rattle.std.proofs.lemmas.Result.{err_from_is_err_and}
use Rattle.book.specs.Pieces.{piece_value}
use Rattle.desk.proofs.FileLemmas.{sent_cut, sent_none, sent_unflushed, sent_whole}
use Rattle.desk.proofs.file.send_file.Goals as goal

pub returns-in_err-write_file_head-clause-sent : goal.returns-in_err-write_file_head-clause-sent
returns-in_err-write_file_head-clause-sent g c =
    let p = err_from_is_err_and c.from_residual.result c.from_residual.ensures.1 in
    sent_none g.K.Keeper c.args.archive.now.keeper (string_bytes c.args.file.now.path) (piece_value c.args.file.now.first) _ _ _ p.0 c.requires.first p.1 p.2 c.in_err-write_file_head.ensures.err

pub returns-in_err-send_pieces-clause-sent : goal.returns-in_err-send_pieces-clause-sent
returns-in_err-send_pieces-clause-sent g c =
    let p = err_from_is_err_and c.from_residual-in_err-send_pieces.result c.from_residual-in_err-send_pieces.ensures.1 in
    sent_cut g.K.Keeper c.args.archive.now.keeper (string_bytes c.args.file.now.path) _ c.args.file.now.first.size _ _ c.in_ok-write_file_head.ensures.ok _ _ c.in_err-send_pieces.field-0.0 (p.1 ∙ ap Err p.2) c.requires.size.within c.in_err-send_pieces.ensures.sent

pub returns-in_err-flush-clause-sent : goal.returns-in_err-flush-clause-sent
returns-in_err-flush-clause-sent g c =
    let p = err_from_is_err_and c.from_residual-in_err-flush.result c.from_residual-in_err-flush.ensures.1 in
    sent_unflushed g.K.Keeper c.args.archive.now.keeper (string_bytes c.args.file.now.path) _ c.args.file.now.first.size _ _ c.in_ok-write_file_head.ensures.ok _ _ tt _ p.0 p.1 p.2 c.in_ok-send_pieces.ensures.sent c.in_err-flush.ensures

pub returns-clause-sent : goal.returns-clause-sent
returns-clause-sent g c =
    sent_whole g.K.Keeper c.args.archive.now.keeper (string_bytes c.args.file.now.path) _ c.args.file.now.first.size _ _ c.in_ok-write_file_head.ensures.ok _ _ tt c.in_ok-send_pieces.ensures.sent c.in_ok-flush.ensures
