use Rattle.std.proofs.Common.{sym, ◌∙◌}
use Rattle.sqlite.specs.Held.{state}
use Rattle.book.specs.Book.{text_at}
use Rattle.tables_meaning.specs.Archives.{book_in_database}
use Rattle.keep_tables.proofs.AtHandLemmas.{other_kept}
use Rattle.keep_tables.proofs.reads.read_kept.Goals as goal

pub returns-then-is_of_another-clause-kept : goal.returns-then-is_of_another-clause-kept
returns-then-is_of_another-clause-kept g c clean config judged shown dates keeps here =
    let kept = text_at (book_in_database (state g.S.Store c.args.conn.now).committed config judged shown dates) c.args.text.now.path in
    sym (other_kept kept c.args.known c.args.text.now (sym c.is_of_another.ensures ∙ c.if-is_of_another.true) here)
