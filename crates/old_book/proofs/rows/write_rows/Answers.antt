use Rattle.std.proofs.Common.{arith}
use Rattle.std.proofs.lemmas.Result.{on_err_weaker}
use Rattle.sqlite.specs.State.{HasCleanDisk}
use Rattle.sqlite.specs.Held.{state}
use Rattle.tables.proofs.TransactionLemmas.{keeps_then, on_err, on_ok}
use Rattle.tables_read.specs.All.{tables_with}
use Rattle.old_book.specs.Placed.{with_arrived, with_shown, with_uploaded}
use Rattle.old_book.proofs.WriteLemmas.{survives_both, writes_then}
use Rattle.old_book.proofs.CopyLemmas.{copies_if_written}
use Rattle.old_book.proofs.rows.write_rows.Goals as goal

pub returns-in_err-write_uploaded-clause-err : goal.returns-in_err-write_uploaded-clause-err
returns-in_err-write_uploaded-clause-err g c clean inside =
    let s0 = state g.S.Store c.args.tx.now.conn.now in
    let s1 = state g.S.Store c.write_arrived.new.tx.conn.now in
    let s2 = state g.S.Store c.write_uploaded.new.tx.conn.now in
    let clean_s1 : HasCleanDisk s1 = omega (arith, c.write_uploaded.ensures.survives.clean, clean) in
    let step_s1 = c.in_ok-write_arrived.ensures.ok clean_s1 inside in
    on_err _ (keeps_then s0 s1 s2 (step_s1.kept) (c.in_err-write_uploaded.ensures.err clean step_s1.mode))

pub returns-in_err-write_uploaded-clause-survives : goal.returns-in_err-write_uploaded-clause-survives
returns-in_err-write_uploaded-clause-survives g c =
    let s0 = state g.S.Store c.args.tx.now.conn.now in
    let s1 = state g.S.Store c.write_arrived.new.tx.conn.now in
    let s2 = state g.S.Store c.write_uploaded.new.tx.conn.now in
    survives_both s0 s1 s2 (c.write_arrived.ensures.survives) c.write_uploaded.ensures.survives

pub returns-clause-ok : goal.returns-clause-ok
returns-clause-ok g c clean inside =
    let t = tables_with c.args.all.now in
    let s0 = state g.S.Store c.args.tx.now.conn.now in
    let s1 = state g.S.Store c.write_arrived.new.tx.conn.now in
    let s2 = state g.S.Store c.write_uploaded.new.tx.conn.now in
    let s3 = state g.S.Store c.write_shown.new.tx.conn.now in
    let clean_s2 : HasCleanDisk s2 = omega (arith, c.write_shown.ensures.survives.clean, clean) in
    let clean_s1 : HasCleanDisk s1 = omega (arith, c.write_uploaded.ensures.survives.clean, clean_s2) in
    let step_s1 = c.in_ok-write_arrived.ensures.ok clean_s1 inside in
    let step_s2 = c.in_ok-write_uploaded.ensures.ok clean_s2 step_s1.mode in
    on_ok c.write_shown.result (c.write_shown.ensures.ok clean step_s2.mode) (λ done. copies_if_written s0 s3 t c.args.moment c.requires.rising (writes_then s0 s2 s3 (λ now. with_uploaded t (with_arrived t c.args.moment now)) (with_shown t) (writes_then s0 s1 s2 (with_arrived t c.args.moment) (with_uploaded t) step_s1 step_s2) done))

pub returns-clause-err : goal.returns-clause-err
returns-clause-err g c clean inside =
    let s0 = state g.S.Store c.args.tx.now.conn.now in
    let s1 = state g.S.Store c.write_arrived.new.tx.conn.now in
    let s2 = state g.S.Store c.write_uploaded.new.tx.conn.now in
    let s3 = state g.S.Store c.write_shown.new.tx.conn.now in
    let clean_s2 : HasCleanDisk s2 = omega (arith, c.write_shown.ensures.survives.clean, clean) in
    let clean_s1 : HasCleanDisk s1 = omega (arith, c.write_uploaded.ensures.survives.clean, clean_s2) in
    let step_s1 = c.in_ok-write_arrived.ensures.ok clean_s1 inside in
    let step_s2 = c.in_ok-write_uploaded.ensures.ok clean_s2 step_s1.mode in
    on_err_weaker c.write_shown.result (λ kept. keeps_then s0 s2 s3 (keeps_then s0 s1 s2 step_s1.kept step_s2.kept) kept) (c.write_shown.ensures.err clean step_s2.mode)

pub returns-clause-survives : goal.returns-clause-survives
returns-clause-survives g c =
    let s0 = state g.S.Store c.args.tx.now.conn.now in
    let s1 = state g.S.Store c.write_arrived.new.tx.conn.now in
    let s2 = state g.S.Store c.write_uploaded.new.tx.conn.now in
    let s3 = state g.S.Store c.write_shown.new.tx.conn.now in
    survives_both s0 s2 s3 (survives_both s0 s1 s2 (c.write_arrived.ensures.survives) c.write_uploaded.ensures.survives) c.write_shown.ensures.survives
