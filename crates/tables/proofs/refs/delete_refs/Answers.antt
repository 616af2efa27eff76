use Rattle.std.proofs.Common.{Ok}
use Rattle.sqlite.specs.Held.{state}
use Rattle.tables.proofs.RefsLemmas.{removes_refs}
use Rattle.tables.proofs.refs.delete_refs.Goals as goal

pub returns-clause-ok : goal.returns-clause-ok
returns-clause-ok g c clean inside =
    let ran = rw (c.params-to_sql.ensures, c.as_id-item.ensures) at (c.in_ok-execute.ensures.runs clean inside) in
    removes_refs (state g.S.Store c.args.tx.now.conn.now) (state g.S.Store c.execute.new.self.conn.now) c.args.item (Ok _) ran
