use Rattle.std.proofs.Common.{Ok}
use Rattle.sqlite.specs.Held.{state}
use Rattle.tables.proofs.TextsLemmas.{changes_insert_text}
use Rattle.tables.proofs.texts.insert_text.Goals as goal

pub returns-clause-ok : goal.returns-clause-ok
returns-clause-ok g c clean inside =
    let ran = rw (c.params-to_sql.ensures, c.params-to_sql-2.ensures) at (c.in_ok-execute.ensures.runs clean inside) in
    changes_insert_text (state g.S.Store c.args.tx.now.conn.now) (state g.S.Store c.execute.new.self.conn.now) (record { path = c.args.path.now; body = c.args.body.now }) (Ok _) ran
