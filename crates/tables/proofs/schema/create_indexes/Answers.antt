use Rattle.std.proofs.Common.{arith}
use Rattle.sqlite.specs.State.{HasCleanDisk}
use Rattle.sqlite.specs.Held.{state}
use Rattle.tables.proofs.IndexLemmas.{both_made}
use Rattle.tables.proofs.schema.create_indexes.Goals as goal

pub returns-clause-ok : goal.returns-clause-ok
returns-clause-ok g c clean inside =
    let old = state g.S.Store c.args.tx.now.conn.now in
    let mid = state g.S.Store c.execute.new.self.conn.now in
    let new = state g.S.Store c.execute-2.new.self.conn.now in
    let early : HasCleanDisk mid = omega (arith, c.execute-2.ensures.survives.clean, clean) in
    let first = c.in_ok-execute.ensures.runs early inside in
    both_made old mid new _ _ first (c.in_ok-execute-2.ensures.runs clean first.1.mode)
