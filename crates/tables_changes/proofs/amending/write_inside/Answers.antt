use Rattle.std.proofs.Common.{arith}
use Rattle.sqlite.specs.State.{HasCleanDisk}
use Rattle.sqlite.specs.Held.{state}
use Rattle.tables.specs.Rows.{Tables, Holds}
use Rattle.tables_meaning.specs.Amending.{HasAllBodies}
use Rattle.tables.proofs.TransactionLemmas.{on_err, on_ok, keeps_then}
use Rattle.tables_meaning.proofs.AmendLemmas.{makes_as, makes_then, makes_unchanged, changes_if_made, written_as, whatever_ok, err_then}
use Rattle.tables_changes.proofs.amending.write_inside.Goals as goal

pub returns-in_err-make_steps-clause-err : goal.returns-in_err-make_steps-clause-err
returns-in_err-make_steps-clause-err g c clean inside =
    let a = state g.S.Store c.args.tx.now.conn.now in
    let b = state g.S.Store c.confirm_open.new.tx.conn.now in
    let m = state g.S.Store c.make_steps.new.tx.conn.now in
    let clean1 : HasCleanDisk b = omega (arith, c.make_steps.ensures.survives.clean, clean) in
    let first = makes_unchanged a b inside (c.in_ok-confirm_open.ensures.ok clean1) in
    on_err _ (keeps_then a b m first.kept (c.in_err-make_steps.ensures.err clean first.mode))

pub returns-clause-err : goal.returns-clause-err
returns-clause-err g c clean inside =
    let a = state g.S.Store c.args.tx.now.conn.now in
    let b = state g.S.Store c.confirm_open.new.tx.conn.now in
    let m = state g.S.Store c.make_steps.new.tx.conn.now in
    let d = state g.S.Store c.renew.new.tx.conn.now in
    let clean2 : HasCleanDisk m = omega (arith, c.renew.ensures.survives.clean, clean) in
    let clean1 : HasCleanDisk b = omega (arith, c.make_steps.ensures.survives.clean, clean2) in
    let first = makes_unchanged a b inside (c.in_ok-confirm_open.ensures.ok clean1) in
    let second = c.in_ok-make_steps.ensures.ok clean2 first.mode in
    err_then _ (c.renew.ensures.err clean second.mode) (λ kept. keeps_then a b d first.kept (keeps_then b m d second.kept kept))

pub returns-clause-ok : goal.returns-clause-ok
returns-clause-ok g c clean inside =
    let a = state g.S.Store c.args.tx.now.conn.now in
    let b = state g.S.Store c.confirm_open.new.tx.conn.now in
    let m = state g.S.Store c.make_steps.new.tx.conn.now in
    let d = state g.S.Store c.renew.new.tx.conn.now in
    let clean2 : HasCleanDisk m = omega (arith, c.renew.ensures.survives.clean, clean) in
    let clean1 : HasCleanDisk b = omega (arith, c.make_steps.ensures.survives.clean, clean2) in
    let opened = c.in_ok-confirm_open.ensures.ok clean1 in
    let first = makes_unchanged a b inside opened in
    let second = rw (c.suites-suites.ensures, c.as_slice-steps.ensures) at (c.in_ok-make_steps.ensures.ok clean2 first.mode) in
    on_ok _ (c.renew.ensures.ok clean second.mode) (λ third. changes_if_made a d _ opened.0.was_open (makes_as a d _ _ (λ t was. written_as c.args.config.now c.args.judged c.args.change.now t) (makes_then a m d _ _ (makes_then a b m _ _ first second) third)))

pub returns-clause-bodies : goal.returns-clause-bodies
returns-clause-bodies g c clean inside =
    let a = state g.S.Store c.args.tx.now.conn.now in
    let b = state g.S.Store c.confirm_open.new.tx.conn.now in
    let m = state g.S.Store c.make_steps.new.tx.conn.now in
    let clean2 : HasCleanDisk m = omega (arith, c.renew.ensures.survives.clean, clean) in
    let clean1 : HasCleanDisk b = omega (arith, c.make_steps.ensures.survives.clean, clean2) in
    let first = makes_unchanged a b inside (c.in_ok-confirm_open.ensures.ok clean1) in
    let there = rw c.as_slice-steps.ensures at (c.in_ok-make_steps.ensures.bodies clean2 first.mode) in
    let all : (t : Tables) → Holds a.now t → HasAllBodies t c.args.change.now.steps = λ t was. there t (first.held t was) in
    whatever_ok _ all
