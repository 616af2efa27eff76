use Rattle.std.proofs.Common.{Ok}
use Rattle.sqlite.specs.Held.{state}
use Rattle.tables.proofs.MetaLemmas.{changes_insert_meta}
use Rattle.tables.proofs.meta.insert_meta.Goals as goal

pub returns-clause-ok : goal.returns-clause-ok
returns-clause-ok g c clean inside =
    let ran = rw (c.params-to_sql.ensures, c.params-to_sql-2.ensures, c.in_ok-version.ensures) at (c.in_ok-execute.ensures.runs clean inside) in
    changes_insert_meta (state g.S.Store c.args.tx.now.conn.now) (state g.S.Store c.execute.new.self.conn.now) (record { version = c.args.version; configuration = c.args.configuration.now }) (Ok _) ran
