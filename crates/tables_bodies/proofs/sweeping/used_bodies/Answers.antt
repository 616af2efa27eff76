use Rattle.std.proofs.Common.{◌++◌, ap₂, subst, ◌∙◌, arith}
use Rattle.std.specs.List.Sorted.{IsPermutation}
use Rattle.sqlite.specs.State.{HasCleanDisk}
use Rattle.sqlite.specs.Held.{state}
use Rattle.tables_meaning.proofs.BodySteps.{unchanged_then}
use Rattle.tables_meaning.proofs.EndedLemmas.{goes_then}
use Rattle.tables_meaning.proofs.ReadsLemmas.{held_after}
use Rattle.tables_bodies.proofs.sweeping.used_bodies.Goals as goal

pub returns-clause-ok : goal.returns-clause-ok
returns-clause-ok g c clean t was =
    let old = state g.S.Store c.args.tx.now.conn.now in
    let mid = state g.S.Store c.arrived_bodies_inside.new.tx.conn.now in
    let new = state g.S.Store c.filed_bodies_inside.new.tx.conn.now in
    let early : HasCleanDisk mid = omega (arith, c.filed_bodies_inside.ensures.survives.clean, clean) in
    let first = c.in_ok-arrived.ensures.ok early t was in
    let second = c.in_ok-filed.ensures.ok clean t (held_after old mid first.1 t was) in (
      subst (λ l. IsPermutation l c.in_rising_order.result.items) (c.in_ok-used.ensures ∙ ap₂ ◌++◌ first.0 (c.deref.ensures.value ∙ second.0)) c.in_rising_order.ensures.same,
      unchanged_then old mid new first.1 second.1,
    )

pub returns-clause-goes_on : goal.returns-clause-goes_on
returns-clause-goes_on g c clean inside =
    let old = state g.S.Store c.args.tx.now.conn.now in
    let mid = state g.S.Store c.arrived_bodies_inside.new.tx.conn.now in
    let new = state g.S.Store c.filed_bodies_inside.new.tx.conn.now in
    let early : HasCleanDisk mid = omega (arith, c.filed_bodies_inside.ensures.survives.clean, clean) in
    let on = c.in_ok-arrived.ensures.goes_on early inside in
    goes_then old mid new on (c.in_ok-filed.ensures.goes_on clean on.mode)
