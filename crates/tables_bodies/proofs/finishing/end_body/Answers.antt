use Rattle.std.proofs.Common.{option_map, arith}
use Rattle.std.proofs.lemmas.Result.{IfOk-weaker}
use Rattle.sqlite.specs.State.{HasCleanDisk}
use Rattle.sqlite.specs.Held.{state}
use Rattle.tables_meaning.specs.Coming.{ended_number, with_ended}
use Rattle.tables_bodies.proofs.ArrivedLemmas.{new_once_stored, received_once_stored}
use Rattle.tables_bodies.proofs.finishing.end_body.Goals as goal

pub returns-clause-ok : goal.returns-clause-ok
returns-clause-ok g c clean inside =
    let old = state g.S.Store c.args.tx.now.conn.now in
    let mid = state g.S.Store c.store_whole.new.tx.conn.now in
    let new = state g.S.Store c.receive.new.tx.conn.now in
    let early : HasCleanDisk mid = omega (arith, c.receive.ensures.survives.clean, clean) in
    let finished = c.args.finished.now in
    let stored = c.in_ok-body.ensures.ok early inside in
    let store = with_ended finished.body finished.print in
    let number = ended_number finished.body finished.print in
    IfOk-weaker c.receive.result _ _ (λ isnew h. (
      received_once_stored finished.name.now finished.print finished.moment (option_map (λ entries. entries.now) c.args.listed) c.in_ok-body.body store number old mid new stored.0 stored.1 h.0,
      new_once_stored finished.span finished.moment finished.name.now c.in_ok-body.body store number old mid stored.0 stored.1 isnew h.1,
    )) (c.receive.ensures.ok clean stored.0.shown.mode)
