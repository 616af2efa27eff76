use Rattle.std.proofs.Common.{◌∙◌, arith}
use Rattle.sqlite.specs.State.{HasCleanDisk}
use Rattle.sqlite.specs.Held.{state}
use Rattle.tables.proofs.TransactionLemmas.{keeps_if_changed, keeps_if_failed, keeps_then, on_err}
use Rattle.tables_meaning.proofs.BodySteps.{survives_both}
use Rattle.tables_bodies.proofs.AtOnceLemmas.{adds_piece}
use Rattle.tables_bodies.proofs.at_once.add_body.Goals as goal

pub returns-in_err-id-clause-err : goal.returns-in_err-id-clause-err
returns-in_err-id-clause-err g c clean inside = on_err _ (keeps_if_failed (state g.S.Store c.args.tx.now.conn.now) (state g.S.Store c.insert_body.new.tx.conn.now) (c.in_err-id.ensures.err clean inside))

pub returns-in_err-insert_piece-clause-same_reference : goal.returns-in_err-insert_piece-clause-same_reference
returns-in_err-insert_piece-clause-same_reference g c = c.insert_piece.ensures.same_reference ∙ c.insert_body.ensures.same_reference

pub returns-in_err-insert_piece-clause-err : goal.returns-in_err-insert_piece-clause-err
returns-in_err-insert_piece-clause-err g c clean inside =
    let old = state g.S.Store c.args.tx.now.conn.now in
    let mid = state g.S.Store c.insert_body.new.tx.conn.now in
    let new = state g.S.Store c.insert_piece.new.tx.conn.now in
    let early : HasCleanDisk mid = omega (arith, c.insert_piece.ensures.survives.clean, clean) in
    let first = c.in_ok-id.ensures.ok early inside in
    on_err _ (keeps_then old mid new (keeps_if_changed old mid _ first.0) (keeps_if_failed mid new (c.in_err-insert_piece.ensures.err clean first.0.shown.mode)))

pub returns-in_err-insert_piece-clause-survives : goal.returns-in_err-insert_piece-clause-survives
returns-in_err-insert_piece-clause-survives g c = survives_both (state g.S.Store c.args.tx.now.conn.now) (state g.S.Store c.insert_body.new.tx.conn.now) (state g.S.Store c.insert_piece.new.tx.conn.now) c.insert_body.ensures.survives c.insert_piece.ensures.survives

pub returns-clause-same_reference : goal.returns-clause-same_reference
returns-clause-same_reference g c = c.insert_piece.ensures.same_reference ∙ c.insert_body.ensures.same_reference

pub returns-clause-ok : goal.returns-clause-ok
returns-clause-ok g c clean inside =
    let old = state g.S.Store c.args.tx.now.conn.now in
    let mid = state g.S.Store c.insert_body.new.tx.conn.now in
    let new = state g.S.Store c.insert_piece.new.tx.conn.now in
    let early : HasCleanDisk mid = omega (arith, c.insert_piece.ensures.survives.clean, clean) in
    let first = c.in_ok-id.ensures.ok early inside in
    (adds_piece old mid new c.args.print.now c.args.bytes.now c.in_ok-id.id first.0 first.1 (c.in_ok-insert_piece.ensures.ok clean first.0.shown.mode), first.1)

pub returns-clause-survives : goal.returns-clause-survives
returns-clause-survives g c = survives_both (state g.S.Store c.args.tx.now.conn.now) (state g.S.Store c.insert_body.new.tx.conn.now) (state g.S.Store c.insert_piece.new.tx.conn.now) c.insert_body.ensures.survives c.insert_piece.ensures.survives
