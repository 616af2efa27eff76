use Rattle.std.proofs.Common.{find, is_some, arith, refl, sym, ap, subst, ◌∙◌}
use Rattle.sqlite.specs.State.{HasCleanDisk}
use Rattle.sqlite.specs.Held.{state}
use Rattle.tables.specs.Arrivals.{is_arrival}
use Rattle.tables.specs.Rows.{Holds}
use Rattle.tables_meaning.proofs.Inside.{changes_then}
use Rattle.tables_meaning.proofs.DeliverLemmas.{read_alone, here_none, here_some}
use Rattle.tables_bodies.proofs.arriving.is_entry_here.Goals as goal

pub returns-in-None-clause-ok : goal.returns-in-None-clause-ok
returns-in-None-clause-ok g c clean inside =
    let old = state g.S.Store c.args.tx.now.conn.now in
    let new = state g.S.Store c.body_with_print_inside.new.tx.conn.now in
    let read = c.in_ok-body_with_print_inside.ensures.ok clean in (
      read_alone old new (λ t. t) (c.in_ok-body_with_print_inside.ensures.goes_on clean inside) (λ t was. ((read t was).1, refl)),
      λ t was. here_none c.args.entry.now t (sym (read t was).0 ∙ c.in-None.is),
    )

pub returns-in_ok-found-in-Some-clause-ok : goal.returns-in_ok-found-in-Some-clause-ok
returns-in_ok-found-in-Some-clause-ok g c clean inside =
    let old = state g.S.Store c.args.tx.now.conn.now in
    let mid = state g.S.Store c.body_with_print_inside.new.tx.conn.now in
    let new = state g.S.Store c.arrival_of.new.tx.conn.now in
    let early : HasCleanDisk mid = omega (arith, c.arrival_of.ensures.survives.clean, clean) in
    let on = c.in_ok-body_with_print_inside.ensures.goes_on early inside in
    let body = c.in_ok-body_with_print_inside.ensures.ok early in
    let arrival = c.in_ok-found-in-Some.ensures.ok clean in (
      changes_then old mid new (λ t. t) (λ t. t) (read_alone old mid (λ t. t) on (λ t was. ((body t was).1, refl)))
          (read_alone mid new (λ t. t) (c.in_ok-found-in-Some.ensures.goes_on clean on.mode) (λ t was. ((arrival t was).1, refl))),
      λ t was.
          let held : Holds mid.now t = subst (λ db. Holds db t) (sym (body t was).1.0.now_is) was in
          c.is_some.ensures ∙ ap is_some (arrival t held).0 ∙ ap (λ name. is_some (find (λ x. is_arrival name c.in-Some.body x.1) t.arrivals)) c.as_str.ensures
          ∙ here_some c.args.entry.now t c.in-Some.body (sym (body t was).0 ∙ c.in-Some.is),
    )
