use Rattle.std.proofs.Common.{Ok}
use Rattle.sqlite.specs.Held.{state}
use Rattle.tables.proofs.WantsLemmas.{changes_wants}
use Rattle.tables.proofs.wants.delete_wants.Goals as goal

pub returns-clause-ok : goal.returns-clause-ok
returns-clause-ok g c clean inside =
    let ran = rw (c.params-to_sql.ensures, c.as_id-upload.ensures) at (c.in_ok-execute.ensures.runs clean inside) in
    changes_wants (state g.S.Store c.args.tx.now.conn.now) (state g.S.Store c.execute.new.self.conn.now) c.args.upload (Ok _) ran
