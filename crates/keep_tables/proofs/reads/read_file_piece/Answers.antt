use Rattle.std.proofs.Common.{not, ap, ◌∙◌, arith}
use Rattle.sqlite.specs.Held.{state}
use Rattle.sqlite.specs.State.{HasCleanDisk}
use Rattle.tables.specs.Rows.{tables_in}
use Rattle.tables_meaning.specs.Kept.{book_in}
use Rattle.tables_meaning.proofs.ReadCalls.{open_after, read_after, rows_after, undone_either, if_then, on_then}
use Rattle.keep_tables.proofs.FilePieces.{piece_of_book}
use Rattle.keep_tables.proofs.reads.read_file_piece.Goals as goal

pub returns-clause-read : goal.returns-clause-read
returns-clause-read g c =
    let old = state g.S.Store c.args.conn.now in
    let mid = state g.S.Store c.probe.new.conn in
    let new = state g.S.Store c.file_piece.new.conn in
    let settled = c.is_autocommit-settled.ensures.settled (c.is_autocommit-settled.ensures.value ∙ ap not c.requires.idle) in
    read_after old mid new c.in_ok-probe.ensures.ok settled (λ other. other _) c.probe.ensures.survives c.file_piece.ensures.survives
    (λ clean archive. undone_either mid new c.file_piece.result (on_then c.file_piece.result (c.file_piece.ensures.ok clean _ archive) (λ x h. h.1)) (c.file_piece.ensures.err clean _ archive))

pub returns-clause-open : goal.returns-clause-open
returns-clause-open g c clean is =
    let old = state g.S.Store c.args.conn.now in
    let mid = state g.S.Store c.probe.new.conn in
    let new = state g.S.Store c.file_piece.new.conn in
    let settled = c.is_autocommit-settled.ensures.settled (c.is_autocommit-settled.ensures.value ∙ ap not c.requires.idle) in
    let early : HasCleanDisk mid = omega (arith, c.file_piece.ensures.survives.clean, clean) in
    open_after old mid new c.in_ok-probe.ensures.ok settled c.file_piece.result early is (λ archive. on_then c.file_piece.result (c.file_piece.ensures.ok clean _ archive) (λ x h. h.1))

pub returns-clause-piece : goal.returns-clause-piece
unfolding book_in
returns-clause-piece g c clean config judged shown dates keeps =
    let old = state g.S.Store c.args.conn.now in
    let mid = state g.S.Store c.probe.new.conn in
    let new = state g.S.Store c.file_piece.new.conn in
    let settled = c.is_autocommit-settled.ensures.settled (c.is_autocommit-settled.ensures.value ∙ ap not c.requires.idle) in
    let early : HasCleanDisk mid = omega (arith, c.file_piece.ensures.survives.clean, clean) in
    let rows = rows_after old mid new c.in_ok-probe.ensures.ok settled early keeps in
    if_then c.file_piece.result (c.file_piece.ensures.ok clean (tables_in old.committed) rows) (λ found h. h.0 ∙ piece_of_book old.committed config judged shown dates keeps c.args.path.now c.args.number)
