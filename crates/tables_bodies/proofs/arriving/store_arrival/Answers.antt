use Rattle.std.proofs.Common.{◌≡◌, false, not, Some, arith, rules, sym, ap, ◌∙◌}
use Rattle.std.specs.Option.{option_map_or}
use Rattle.sqlite.specs.State.{HasCleanDisk}
use Rattle.sqlite.specs.Held.{state}
use Rattle.tables_meaning.specs.Cleaning.{counts_row}
use Rattle.tables_meaning.proofs.DeliverLemmas.{read_then, read_alone, arrived_new, arrived_later, arrived_before}
use Rattle.tables_bodies.proofs.arriving.store_arrival.Goals as goal

pub returns-in_ok-insert_arrival-in-None-clause-ok : goal.returns-in_ok-insert_arrival-in-None-clause-ok
returns-in_ok-insert_arrival-in-None-clause-ok g c clean inside =
    let old = state g.S.Store c.args.tx.now.conn.now in
    let mid = state g.S.Store c.arrival_of.new.tx.conn.now in
    let new = state g.S.Store c.insert_arrival.new.tx.conn.now in
    let early : HasCleanDisk mid = omega (arith, c.insert_arrival.ensures.survives.clean, clean) in
    let on = c.in_ok-arrival_of.ensures.goes_on early inside in
    let found = c.in_ok-arrival_of.ensures.ok early in (
      read_then old mid new _ _ on (λ t was. ((found t was).1, arrived_new c.args.name.now c.args.body c.args.moment t (sym (found t was).0 ∙ c.in-None.is))) (c.in_ok-insert_arrival-in-None.ensures.ok clean on.mode).0,
      λ t was. sym (ap (λ o. not (option_map_or (λ x. counts_row c.args.span c.args.moment x.1) o false)) (sym (found t was).0 ∙ c.in-None.is)),
    )

pub returns-then-moment-arrival-clause-ok : goal.returns-then-moment-arrival-clause-ok
returns-then-moment-arrival-clause-ok g c clean inside =
    let old = state g.S.Store c.args.tx.now.conn.now in
    let new = state g.S.Store c.arrival_of.new.tx.conn.now in
    let on = c.in_ok-arrival_of.ensures.goes_on clean inside in
    let found = c.in_ok-arrival_of.ensures.ok clean in
    let is : c.in_ok-arrival_of.field-0 ≡ Some (c.in-Some.id, c.in-Some.arrival) = search rules in (
      read_alone old new _ on
          (λ t was. ((found t was).1, arrived_before c.args.name.now c.args.body c.args.moment t c.in-Some.id c.in-Some.arrival (sym (found t was).0 ∙ is) c.if-moment-arrival.true)),
      λ t was. ap not (c.counts-known.ensures ∙ ap (λ o. option_map_or (λ x. counts_row c.args.span c.args.moment x.1) o false) (sym is ∙ (found t was).0)),
    )

pub returns-in_ok-update_moment-in-Some-clause-ok : goal.returns-in_ok-update_moment-in-Some-clause-ok
returns-in_ok-update_moment-in-Some-clause-ok g c clean inside =
    let old = state g.S.Store c.args.tx.now.conn.now in
    let mid = state g.S.Store c.arrival_of.new.tx.conn.now in
    let new = state g.S.Store c.update_moment.new.tx.conn.now in
    let early : HasCleanDisk mid = omega (arith, c.update_moment.ensures.survives.clean, clean) in
    let on = c.in_ok-arrival_of.ensures.goes_on early inside in
    let found = c.in_ok-arrival_of.ensures.ok early in
    let is : c.in_ok-arrival_of.field-0 ≡ Some (c.in-Some.id, c.in-Some.arrival) = search rules in (
      read_then old mid new _ _ on
          (λ t was. ((found t was).1, arrived_later c.args.name.now c.args.body c.args.moment t c.in-Some.id c.in-Some.arrival (sym (found t was).0 ∙ is) c.if-moment-arrival.false))
          (c.in_ok-update_moment-in-Some.ensures.ok clean on.mode),
      λ t was. ap not (c.counts-known.ensures ∙ ap (λ o. option_map_or (λ x. counts_row c.args.span c.args.moment x.1) o false) (sym is ∙ (found t was).0)),
    )
