use Rattle.std.proofs.Common.{Ok}
use Rattle.sqlite.specs.Held.{state}
use Rattle.tables.proofs.FilesLemmas.{removes_file}
use Rattle.tables.proofs.files.delete_file.Goals as goal

pub returns-clause-ok : goal.returns-clause-ok
returns-clause-ok g c clean inside =
    let ran = rw (c.params-to_sql.ensures) at (c.in_ok-execute.ensures.runs clean inside) in
    removes_file (state g.S.Store c.args.tx.now.conn.now) (state g.S.Store c.execute.new.self.conn.now) c.args.path.now (Ok _) ran
