use Rattle.std.proofs.Common.{Some, is_some, IsTrue, refl, sym, subst, ◌∙◌, arith}
use Rattle.sqlite.specs.State.{HasCleanDisk}
use Rattle.sqlite.specs.Held.{state}
use Rattle.tables.specs.Bodies.{body_with}
use Rattle.tables.specs.Rows.{Tables, Holds}
use Rattle.tables.proofs.TransactionLemmas.{on_ok}
use Rattle.tables_meaning.proofs.AmendLemmas.{makes_as, makes_by_read, makes_if_changed, makes_then, pooled_as, whatever_ok}
use Rattle.tables_changes.proofs.amending.pooling.add_file.Goals as goal

pub returns-in-Some-clause-ok : goal.returns-in-Some-clause-ok
returns-in-Some-clause-ok g c clean inside =
    let a = state g.S.Store c.args.tx.now.conn.now in
    let b = state g.S.Store c.body_with_print_inside.new.tx.conn.now in
    let d = state g.S.Store c.insert_file.new.tx.conn.now in
    let early : HasCleanDisk b = omega (arith, c.insert_file.ensures.survives.clean, clean) in
    let shown = c.in_ok-found.ensures.goes_on early inside in
    let read = makes_by_read a b shown (λ t was. (c.in_ok-found.ensures.ok early t was).1) in
    on_ok _ (c.insert_file.ensures.ok clean shown.mode) (λ second. makes_as a d _ _ (λ t was. pooled_as c.args.file.now t (Some c.in-Some.body) (sym (c.in_ok-found.ensures.ok early t was).0 ∙ c.in-Some.is))
    (makes_then a b d _ _ read (makes_if_changed b d _ (rw c.as_str.ensures at second))))

pub returns-in-Some-clause-bodies : goal.returns-in-Some-clause-bodies
returns-in-Some-clause-bodies g c clean inside =
    let a = state g.S.Store c.args.tx.now.conn.now in
    let b = state g.S.Store c.body_with_print_inside.new.tx.conn.now in
    let early : HasCleanDisk b = omega (arith, c.insert_file.ensures.survives.clean, clean) in
    let there : (t : Tables) → Holds a.now t → IsTrue (is_some (body_with c.args.file.now.print t.bodies)) =
    λ t was. subst (λ o. IsTrue (is_some o)) (sym c.in-Some.is ∙ (c.in_ok-found.ensures.ok early t was).0) refl in
    whatever_ok _ there
