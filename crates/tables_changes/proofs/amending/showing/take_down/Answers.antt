use Rattle.std.proofs.Common.{Some, None, sym, ◌∙◌, arith}
use Rattle.sqlite.specs.State.{HasCleanDisk}
use Rattle.sqlite.specs.Held.{state}
use Rattle.tables.proofs.TransactionLemmas.{on_ok}
use Rattle.tables_meaning.proofs.AmendLemmas.{makes_as, makes_by_read, makes_then, taken_down}
use Rattle.tables_changes.proofs.amending.showing.take_down.Goals as goal

pub returns-in-Some-clause-ok : goal.returns-in-Some-clause-ok
returns-in-Some-clause-ok g c clean inside =
    let a = state g.S.Store c.args.tx.now.conn.now in
    let b = state g.S.Store c.item_on.new.tx.conn.now in
    let d = state g.S.Store c.remove_item.new.tx.conn.now in
    let early : HasCleanDisk b = omega (arith, c.remove_item.ensures.survives.clean, clean) in
    let shown = c.in_ok-found.ensures.goes_on early inside in
    let read = makes_by_read a b shown (λ t was. (c.in_ok-found.ensures.ok early t was).1) in
    on_ok _ (c.remove_item.ensures.ok clean shown.mode) (λ second. makes_as a d _ _ (λ t was. taken_down c.args.suites.now c.args.entry.now t (Some c.in-Some.found)
    (sym (rw (c.codename_at.ensures, c.number.ensures, c.as_str.ensures, c.as_str-2.ensures) at (c.in_ok-found.ensures.ok early t was).0) ∙ c.in-Some.is)) (makes_then a b d _ _ read second))

pub returns-in-None-clause-ok : goal.returns-in-None-clause-ok
returns-in-None-clause-ok g c clean inside =
    let a = state g.S.Store c.args.tx.now.conn.now in
    let b = state g.S.Store c.item_on.new.tx.conn.now in
    let read = makes_by_read a b (c.in_ok-found.ensures.goes_on clean inside) (λ t was. (c.in_ok-found.ensures.ok clean t was).1) in
    makes_as a b _ _ (λ t was. taken_down c.args.suites.now c.args.entry.now t None
    (sym (rw (c.codename_at.ensures, c.number.ensures, c.as_str.ensures, c.as_str-2.ensures) at (c.in_ok-found.ensures.ok clean t was).0) ∙ c.in-None.is)) read
