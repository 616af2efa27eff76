use Rattle.std.proofs.Common.{arith}
use Rattle.std.proofs.lemmas.Result.{on_err_weaker}
use Rattle.sqlite.specs.State.{HasCleanDisk}
use Rattle.sqlite.specs.Held.{state}
use Rattle.tables.proofs.TransactionLemmas.{keeps_then, on_err, on_ok}
use Rattle.tables_read.specs.All.{tables_with}
use Rattle.old_book.specs.Placed.{each, with_file_of, with_item_at, with_ref_of}
use Rattle.old_book.proofs.WriteLemmas.{survives_both, writes_then}
use Rattle.old_book.proofs.rows.write_shown.Goals as goal

pub returns-in_err-write_all-2-clause-err : goal.returns-in_err-write_all-2-clause-err
returns-in_err-write_all-2-clause-err g c clean inside =
    let s0 = state g.S.Store c.args.tx.now.conn.now in
    let s1 = state g.S.Store c.write_all.new.tx.conn.now in
    let s2 = state g.S.Store c.write_all-2.new.tx.conn.now in
    let clean_s1 : HasCleanDisk s1 = omega (arith, c.write_all-2.ensures.survives.clean, clean) in
    let step_s1 = rw c.deref.ensures.value at (c.in_ok-write_all.ensures.ok clean_s1 inside) in
    on_err _ (keeps_then s0 s1 s2 (step_s1.kept) (c.in_err-write_all-2.ensures.err clean step_s1.mode))

pub returns-in_err-write_all-2-clause-survives : goal.returns-in_err-write_all-2-clause-survives
returns-in_err-write_all-2-clause-survives g c =
    let s0 = state g.S.Store c.args.tx.now.conn.now in
    let s1 = state g.S.Store c.write_all.new.tx.conn.now in
    let s2 = state g.S.Store c.write_all-2.new.tx.conn.now in
    survives_both s0 s1 s2 (c.write_all.ensures.survives) c.write_all-2.ensures.survives

pub returns-clause-ok : goal.returns-clause-ok
returns-clause-ok g c clean inside =
    let t = tables_with c.args.all.now in
    let s0 = state g.S.Store c.args.tx.now.conn.now in
    let s1 = state g.S.Store c.write_all.new.tx.conn.now in
    let s2 = state g.S.Store c.write_all-2.new.tx.conn.now in
    let s3 = state g.S.Store c.write_all-3.new.tx.conn.now in
    let clean_s2 : HasCleanDisk s2 = omega (arith, c.write_all-3.ensures.survives.clean, clean) in
    let clean_s1 : HasCleanDisk s1 = omega (arith, c.write_all-2.ensures.survives.clean, clean_s2) in
    let step_s1 = rw c.deref.ensures.value at (c.in_ok-write_all.ensures.ok clean_s1 inside) in
    let step_s2 = rw c.deref-2.ensures.value at (c.in_ok-write_all-2.ensures.ok clean_s2 step_s1.mode) in
    on_ok c.write_all-3.result (rw c.deref-3.ensures.value at (c.write_all-3.ensures.ok clean step_s2.mode)) (λ done. writes_then s0 s2 s3 (λ now. each with_ref_of t.refs (each with_item_at t.items now)) (each with_file_of t.files) (writes_then s0 s1 s2 (each with_item_at t.items) (each with_ref_of t.refs) step_s1 step_s2) done)

pub returns-clause-err : goal.returns-clause-err
returns-clause-err g c clean inside =
    let s0 = state g.S.Store c.args.tx.now.conn.now in
    let s1 = state g.S.Store c.write_all.new.tx.conn.now in
    let s2 = state g.S.Store c.write_all-2.new.tx.conn.now in
    let s3 = state g.S.Store c.write_all-3.new.tx.conn.now in
    let clean_s2 : HasCleanDisk s2 = omega (arith, c.write_all-3.ensures.survives.clean, clean) in
    let clean_s1 : HasCleanDisk s1 = omega (arith, c.write_all-2.ensures.survives.clean, clean_s2) in
    let step_s1 = rw c.deref.ensures.value at (c.in_ok-write_all.ensures.ok clean_s1 inside) in
    let step_s2 = rw c.deref-2.ensures.value at (c.in_ok-write_all-2.ensures.ok clean_s2 step_s1.mode) in
    on_err_weaker c.write_all-3.result (λ kept. keeps_then s0 s2 s3 (keeps_then s0 s1 s2 step_s1.kept step_s2.kept) kept) (c.write_all-3.ensures.err clean step_s2.mode)

pub returns-clause-survives : goal.returns-clause-survives
returns-clause-survives g c =
    let s0 = state g.S.Store c.args.tx.now.conn.now in
    let s1 = state g.S.Store c.write_all.new.tx.conn.now in
    let s2 = state g.S.Store c.write_all-2.new.tx.conn.now in
    let s3 = state g.S.Store c.write_all-3.new.tx.conn.now in
    survives_both s0 s2 s3 (survives_both s0 s1 s2 (c.write_all.ensures.survives) c.write_all-2.ensures.survives) c.write_all-3.ensures.survives
