use Rattle.std.proofs.Common.{◌≡◌, not, ap, ◌∙◌, arith}
use Rattle.std.proofs.lemmas.Result.{IfOk-weaker}
use Rattle.sqlite.specs.Held.{state}
use Rattle.sqlite.specs.State.{HasCleanDisk}
use Rattle.tables.specs.Rows.{tables_in}
use Rattle.tables_meaning.proofs.ReadCalls.{rows_after}
use Rattle.tables_bodies.specs.Swept.{have_all_arrived}
use Rattle.tables_bodies.proofs.SparedLemmas.{looked_survives, looked_undone}
use Rattle.tables_bodies.proofs.sparing.look.Goals as goal

pub returns-clause-unchanged : goal.returns-clause-unchanged
returns-clause-unchanged g c clean =
    let old = state g.S.Store c.args.conn.now in
    let mid = state g.S.Store c.probe.new.conn in
    let new = state g.S.Store c.have_all_arrived.new.conn in
    let settled = c.is_autocommit-settled.ensures.settled (c.is_autocommit-settled.ensures.value ∙ ap not c.requires.idle) in
    let early : HasCleanDisk mid = omega (arith, c.have_all_arrived.ensures.survives.clean, clean) in
    let first : HasCleanDisk old = omega (arith, c.probe.ensures.survives.clean, early) in
    looked_undone old mid new c.in_ok-probe.ensures.ok settled (λ t arrived. arrived ≡ have_all_arrived t c.args.steps.now) early (c.requires.archive first) c.have_all_arrived.result
    (c.have_all_arrived.ensures.ok clean) (c.have_all_arrived.ensures.err clean)

pub returns-clause-arrived : goal.returns-clause-arrived
returns-clause-arrived g c clean config judged shown dates keeps =
    let old = state g.S.Store c.args.conn.now in
    let mid = state g.S.Store c.probe.new.conn in
    let new = state g.S.Store c.have_all_arrived.new.conn in
    let settled = c.is_autocommit-settled.ensures.settled (c.is_autocommit-settled.ensures.value ∙ ap not c.requires.idle) in
    let early : HasCleanDisk mid = omega (arith, c.have_all_arrived.ensures.survives.clean, clean) in
    let rows = rows_after old mid new c.in_ok-probe.ensures.ok settled early keeps in
    IfOk-weaker c.have_all_arrived.result _ _ (λ arrived is. is.0) (c.have_all_arrived.ensures.ok clean (tables_in old.committed) rows)

pub returns-clause-survives : goal.returns-clause-survives
returns-clause-survives g c =
    let old = state g.S.Store c.args.conn.now in
    let mid = state g.S.Store c.probe.new.conn in
    let new = state g.S.Store c.have_all_arrived.new.conn in
    let settled = c.is_autocommit-settled.ensures.settled (c.is_autocommit-settled.ensures.value ∙ ap not c.requires.idle) in
    looked_survives old mid new c.in_ok-probe.ensures.ok settled c.requires.archive c.probe.ensures.survives c.have_all_arrived.ensures.survives
