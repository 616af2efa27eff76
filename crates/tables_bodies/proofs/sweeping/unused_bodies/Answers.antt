use Rattle.std.proofs.Common.{filter, nat_eq, not, ◌∙◌, arith}
use Rattle.std.specs.List.{list_any}
use Rattle.sqlite.specs.State.{HasCleanDisk}
use Rattle.sqlite.specs.Held.{state}
use Rattle.tables_meaning.proofs.BodySteps.{unchanged_then}
use Rattle.tables_meaning.proofs.EndedLemmas.{goes_then}
use Rattle.tables_meaning.proofs.ReadsLemmas.{held_after}
use Rattle.tables_bodies.proofs.UnusedLemmas.{unused_are}
use Rattle.tables_bodies.proofs.sweeping.unused_bodies.Goals as goal

pub returns-clause-ok : goal.returns-clause-ok
returns-clause-ok g c clean t was =
    let old = state g.S.Store c.args.tx.now.conn.now in
    let mid = state g.S.Store c.body_numbers_inside.new.tx.conn.now in
    let new = state g.S.Store c.used_bodies.new.tx.conn.now in
    let early : HasCleanDisk mid = omega (arith, c.used_bodies.ensures.survives.clean, clean) in
    let first = c.in_ok-all.ensures.ok early t was in
    let second = c.in_ok-used.ensures.ok clean t (held_after old mid first.1 t was) in
    let all = c.deref.ensures.value ∙ first.0 in (
      c.in_ok-unused.ensures ∙ (λ i. filter (λ id. not (list_any (λ n. nat_eq n id) (c.deref-2.ensures.value i))) (all i))
          ∙ unused_are t c.in_ok-used.used.items second.0,
      unchanged_then old mid new first.1 second.1,
    )

pub returns-clause-goes_on : goal.returns-clause-goes_on
returns-clause-goes_on g c clean inside =
    let old = state g.S.Store c.args.tx.now.conn.now in
    let mid = state g.S.Store c.body_numbers_inside.new.tx.conn.now in
    let new = state g.S.Store c.used_bodies.new.tx.conn.now in
    let early : HasCleanDisk mid = omega (arith, c.used_bodies.ensures.survives.clean, clean) in
    let on = c.in_ok-all.ensures.goes_on early inside in
    goes_then old mid new on (c.in_ok-used.ensures.goes_on clean on.mode)
