use Rattle.std.proofs.Common.{Ok}
use Rattle.sqlite.specs.Held.{state}
use Rattle.tables.proofs.UploadsLemmas.{changes_verdict}
use Rattle.tables.proofs.uploads.set_verdict.Goals as goal

pub returns-clause-ok : goal.returns-clause-ok
returns-clause-ok g c clean inside =
    let ran = rw (c.params-to_sql.ensures, c.params-to_sql-2.ensures, c.params-to_sql-3.ensures, c.as_id-id.ensures, c.in_ok-place.ensures, c.in_ok-verdict.ensures) at (c.in_ok-execute.ensures.runs clean inside) in
    changes_verdict (state g.S.Store c.args.tx.now.conn.now) (state g.S.Store c.execute.new.self.conn.now) c.args.id c.args.place c.args.verdict (Ok _) ran
