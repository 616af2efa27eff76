use Rattle.std.proofs.Common.{Ok}
use Rattle.sqlite.specs.Held.{state}
use Rattle.tables.proofs.RefsLemmas.{inserts_ref}
use Rattle.tables.proofs.refs.insert_ref.Goals as goal

pub returns-clause-ok : goal.returns-clause-ok
returns-clause-ok g c clean inside =
    let ran = rw (c.params-to_sql.ensures, c.params-to_sql-2.ensures, c.params-to_sql-3.ensures, c.params-to_sql-4.ensures, c.params-to_sql-5.ensures, c.params-to_sql-6.ensures, c.params-to_sql-7.ensures, c.as_id-item.ensures, c.in_ok-number.ensures, c.as_str-path.ensures, c.in_ok-size.ensures) at (c.in_ok-execute.ensures.runs clean inside) in
    inserts_ref (state g.S.Store c.args.tx.now.conn.now) (state g.S.Store c.execute.new.self.conn.now) c.args.reference.now (Ok _) ran
