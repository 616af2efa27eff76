use Rattle.std.proofs.Common.{ap, ◌∙◌, SFits, w64, to_z-of_z, rules}
use Rattle.sqlite.specs.Held.{state}
use Rattle.tables.specs.Rows.{id_nat}
use Rattle.tables.proofs.EqualLemmas.{id_back}
use Rattle.tables.proofs.ItemsLemmas.{inserts_item}
use Rattle.tables.proofs.items.insert_item.Goals as goal

pub returns-clause-ok : goal.returns-clause-ok
returns-clause-ok g c clean inside =
    let ran = rw (c.params-to_sql.ensures, c.params-to_sql-2.ensures, c.params-to_sql-3.ensures, c.params-to_sql-4.ensures, c.params-to_sql-5.ensures, c.params-to_sql-6.ensures, c.params-to_sql-7.ensures, c.params-to_sql-8.ensures, c.in_ok-kind.ensures, c.as_str-suite.ensures, c.as_str-package.ensures, c.as_str-architecture.ensures, c.as_str-version.ensures, c.as_str-component.ensures, c.as_str-source.ensures, c.as_slice-paragraph.ensures) at (c.in_ok-execute.ensures.runs clean inside) in
    let done = inserts_item (state g.S.Store c.args.tx.now.conn.now) (state g.S.Store c.execute.new.self.conn.now) c.args.item.now _ ran in
    let fits : SFits w64 c.last_insert_rowid.result = search rules in
    (done.0, λ t was. c.row_number.ensures ∙ ap id_nat (to_z-of_z fits ∙ c.last_insert_rowid.ensures ∙ done.1 t was) ∙ id_back _)
