use Rattle.std.proofs.Common.{◌≡◌, Some, arith, rules}
use Rattle.sqlite.specs.State.{HasCleanDisk}
use Rattle.sqlite.specs.Held.{state}
use Rattle.tables_meaning.proofs.DeliverLemmas.{received_alone, received_changes}
use Rattle.tables_bodies.proofs.arriving.receive.Goals as goal

pub returns-in-None-clause-ok : goal.returns-in-None-clause-ok
returns-in-None-clause-ok g c clean inside =
    let old = state g.S.Store c.args.tx.now.conn.now in
    let new = state g.S.Store c.store_file.new.tx.conn.now in
    let file = c.args.file.now in
    let stored = c.in_ok-new.ensures.ok clean inside in
    (rw c.in-None.is (received_alone file.name.now file.print file.moment (λ t. t) (λ _. c.args.body) old new stored.0), stored.1)

pub returns-in_ok-store_request-in-Some-clause-ok : goal.returns-in_ok-store_request-in-Some-clause-ok
returns-in_ok-store_request-in-Some-clause-ok g c clean inside =
    let old = state g.S.Store c.args.tx.now.conn.now in
    let mid = state g.S.Store c.store_file.new.tx.conn.now in
    let new = state g.S.Store c.store_request.new.tx.conn.now in
    let early : HasCleanDisk mid = omega (arith, c.store_request.ensures.survives.clean, clean) in
    let file = c.args.file.now in
    let stored = c.in_ok-new.ensures.ok early inside in
    let requested = c.in_ok-store_request-in-Some.ensures.ok clean stored.0.shown.mode in
    let is : c.args.listed ≡ Some c.in-Some.entries = search rules in
    (rw is (received_changes file.name.now file.print file.moment (λ t. t) (λ _. c.args.body) old mid stored.0 new c.in-Some.entries.now requested), stored.1)
