use Rattle.std.proofs.Common.{fold, arith}
use Rattle.sqlite.specs.State.{HasCleanDisk}
use Rattle.sqlite.specs.Held.{state}
use Rattle.tables.specs.Rows.{Tables, Holds}
use Rattle.tables_meaning.specs.Amending.{HasBodies}
use Rattle.tables_meaning.specs.Making.{with_shown, without_shown}
use Rattle.tables.proofs.TransactionLemmas.{on_ok}
use Rattle.tables_meaning.proofs.AmendLemmas.{makes_then, makes_as, has_bodies, items_keep, plan_as}
use Rattle.tables_changes.proofs.amending.stepping.make_plan.Goals as goal

pub returns-clause-ok : goal.returns-clause-ok
returns-clause-ok g c clean inside =
    let a = state g.S.Store c.args.tx.now.conn.now in
    let b = state g.S.Store c.change_items.new.tx.conn.now in
    let d = state g.S.Store c.change_pool.new.tx.conn.now in
    let early : HasCleanDisk b = omega (arith, c.change_pool.ensures.survives.clean, clean) in
    let first = c.in_ok-change_items.ensures.ok early inside in
    let next = (c.change_pool.ensures.ok clean first.mode) in
    let begun = first in
    on_ok _ next (λ second. makes_as a d _ _ (λ t was. plan_as c.args.suites.now c.args.plan.now t) (makes_then a b d _ _ begun second))

pub returns-clause-bodies : goal.returns-clause-bodies
returns-clause-bodies g c clean inside =
    let a = state g.S.Store c.args.tx.now.conn.now in
    let b = state g.S.Store c.change_items.new.tx.conn.now in
    let early : HasCleanDisk b = omega (arith, c.change_pool.ensures.survives.clean, clean) in
    let first = c.in_ok-change_items.ensures.ok early inside in
    let next = (c.change_pool.ensures.bodies clean first.mode) in
    let begun = first in
    on_ok {Q = (t : Tables) → Holds a.now t → HasBodies t c.args.plan.now.files_added} _ next (λ there t was.
    has_bodies t (fold (λ now e. with_shown c.args.suites.now e now) (fold (λ now e. without_shown c.args.suites.now e now) t c.args.plan.now.dropped) c.args.plan.now.put) c.args.plan.now.files_added (items_keep c.args.suites.now c.args.plan.now.dropped c.args.plan.now.put t) (there _ (begun.held t was)))
