use Rattle.std.proofs.Common.{Ok}
use Rattle.sqlite.specs.Held.{state}
use Rattle.tables.proofs.TextsLemmas.{removes_texts}
use Rattle.tables.proofs.texts.delete_texts.Goals as goal

pub returns-clause-ok : goal.returns-clause-ok
returns-clause-ok g c clean inside =
    removes_texts (state g.S.Store c.args.tx.now.conn.now) (state g.S.Store c.execute.new.self.conn.now) (Ok _) (c.in_ok-execute.ensures.runs clean inside)
