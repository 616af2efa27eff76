use Rattle.std.proofs.Common.{Ok}
use Rattle.sqlite.specs.Held.{state}
use Rattle.tables.proofs.FilesLemmas.{inserts_file}
use Rattle.tables.proofs.files.insert_file.Goals as goal

pub returns-clause-ok : goal.returns-clause-ok
returns-clause-ok g c clean inside =
    let ran = rw (c.params-to_sql.ensures, c.params-to_sql-2.ensures, c.as_id-body.ensures) at (c.in_ok-execute.ensures.runs clean inside) in
    inserts_file (state g.S.Store c.args.tx.now.conn.now) (state g.S.Store c.execute.new.self.conn.now) c.args.path.now c.args.body (Ok _) ran
