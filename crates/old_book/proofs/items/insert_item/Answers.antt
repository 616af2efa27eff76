use Rattle.std.proofs.Common.{Ok}
use Rattle.sqlite.specs.Held.{state}
use Rattle.old_book.proofs.ItemsLemmas.{copies_item}
use Rattle.old_book.proofs.items.insert_item.Goals as goal

pub returns-clause-ok : goal.returns-clause-ok
returns-clause-ok g c clean inside =
    let ran = rw (c.params-to_sql.ensures, c.params-to_sql-2.ensures, c.params-to_sql-3.ensures, c.params-to_sql-4.ensures, c.params-to_sql-5.ensures, c.params-to_sql-6.ensures, c.params-to_sql-7.ensures, c.params-to_sql-8.ensures, c.params-to_sql-9.ensures, c.as_id-id.ensures, c.in_ok-kind.ensures, c.as_str-suite.ensures, c.as_str-package.ensures, c.as_str-architecture.ensures, c.as_str-version.ensures, c.as_str-component.ensures, c.as_str-source.ensures, c.as_slice-paragraph.ensures) at (c.in_ok-execute.ensures.runs clean inside) in
    copies_item (state g.S.Store c.args.tx.now.conn.now) (state g.S.Store c.execute.new.self.conn.now) c.args.id c.args.item.now (Ok _) ran
