use Rattle.std.proofs.Common.{sym, arith}
use Rattle.std.proofs.lemmas.Bool.{cond-true, cond-false}
use Rattle.sqlite.specs.State.{HasCleanDisk}
use Rattle.sqlite.specs.Held.{state}
use Rattle.tables_meaning.specs.Making.{with_written}
use Rattle.tables_meaning.specs.Sweeping.{swept}
use Rattle.tables.proofs.TransactionLemmas.{keeps_if_changed, keeps_then, on_ok}
use Rattle.tables_meaning.proofs.AmendLemmas.{changes_if_made, err_then, makes_as, makes_if_changed, makes_then, whatever_ok}
use Rattle.tables_meaning.proofs.DeliverLemmas.{changes_as}
use Rattle.tables_changes.proofs.amending.amend_inside.Goals as goal

pub returns-then-sweeps-clause-ok : goal.returns-then-sweeps-clause-ok
returns-then-sweeps-clause-ok g c clean inside =
    let a = state g.S.Store c.args.tx.now.conn.now in
    let b = state g.S.Store c.write_inside.new.tx.conn.now in
    let d = state g.S.Store c.sweep.new.tx.conn.now in
    let early : HasCleanDisk b = omega (arith, c.sweep.ensures.survives.clean, clean) in
    let written = c.in_ok-write_inside.ensures.ok early inside in
    on_ok c.sweep.result (c.sweep.ensures.ok clean written.shown.mode)
    (λ made. changes_if_made a d _ written.shown.was_open (makes_as a d _ _
    (λ t was. let now = with_written c.args.config.now c.args.judged c.args.change.now t in (sym (cond-true c.args.sweeps (swept now) now c.if-sweeps.true)))
    (makes_then a b d _ _ (makes_if_changed a b _ written) made)))

pub returns-then-sweeps-clause-err : goal.returns-then-sweeps-clause-err
returns-then-sweeps-clause-err g c clean inside =
    let a = state g.S.Store c.args.tx.now.conn.now in
    let b = state g.S.Store c.write_inside.new.tx.conn.now in
    let d = state g.S.Store c.sweep.new.tx.conn.now in
    let early : HasCleanDisk b = omega (arith, c.sweep.ensures.survives.clean, clean) in
    let written = c.in_ok-write_inside.ensures.ok early inside in
    err_then c.sweep.result (c.sweep.ensures.err clean written.shown.mode) (λ kept. keeps_then a b d (keeps_if_changed a b _ written) kept)

pub returns-then-sweeps-clause-bodies : goal.returns-then-sweeps-clause-bodies
returns-then-sweeps-clause-bodies g c clean inside =
    let b = state g.S.Store c.write_inside.new.tx.conn.now in
    let early : HasCleanDisk b = omega (arith, c.sweep.ensures.survives.clean, clean) in
    whatever_ok c.sweep.result (c.in_ok-write_inside.ensures.bodies early inside)

pub returns-clause-ok : goal.returns-clause-ok
returns-clause-ok g c clean inside =
    let a = state g.S.Store c.args.tx.now.conn.now in
    let b = state g.S.Store c.write_inside.new.tx.conn.now in
    changes_as a b _ _
    (λ t was. let now = with_written c.args.config.now c.args.judged c.args.change.now t in (sym (cond-false c.args.sweeps (swept now) now c.if-sweeps.false)))
    (c.in_ok-write_inside.ensures.ok clean inside)
