use Rattle.std.proofs.Common.{Ok}
use Rattle.sqlite.specs.Held.{state}
use Rattle.tables.proofs.MetaLemmas.{changes_update_meta}
use Rattle.tables.proofs.meta.update_configuration.Goals as goal

pub returns-clause-ok : goal.returns-clause-ok
returns-clause-ok g c clean inside =
    let ran = rw (c.params-to_sql.ensures) at (c.in_ok-execute.ensures.runs clean inside) in
    changes_update_meta (state g.S.Store c.args.tx.now.conn.now) (state g.S.Store c.execute.new.self.conn.now) c.args.configuration.now (Ok _) ran
