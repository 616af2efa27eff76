use Rattle.sqlite.specs.Held.{state}
use Rattle.sqlite.specs.Steps.{over_memory}
use Rattle.tables.specs.Rows.{no_rows}
use Rattle.tables_read.specs.All.{tables_with}
use Rattle.tables_read.specs.Keys.{constrained}
use Rattle.old_book.specs.Copying.{copied}
use Rattle.old_book.proofs.ConstrainedLemmas.{constrained_copied}
use Rattle.old_book.proofs.taken.are_taken.Goals as goal

pub returns : goal.returns
returns c =
    let t = tables_with c.args.all.now in
    constrained_copied t 0 no_rows
    (constrained (state over_memory c.in_ok-conn.conn).now (copied t 0 no_rows) (c.schema.ensures.live c.in_ok-conn.ensures.open).0 c.in_ok-conn.ensures.held)
