use Rattle.std.proofs.Common.{◌∙◌, refl, arith}
use Rattle.sqlite.specs.State.{HasCleanDisk}
use Rattle.sqlite.specs.Held.{state}
use Rattle.tables.proofs.TransactionLemmas.{keeps_if_failed, keeps_then, on_err}
use Rattle.tables.proofs.ReadLemmas.{survives_none}
use Rattle.old_book.proofs.WriteLemmas.{all_written, none_yet, one_more, survives_both}
use Rattle.old_book.proofs.rows.write_all.Goals as goal

pub loop-row-init : goal.loop-row-init
loop-row-init g c =
    let a = state g.S.Store c.args.tx.now.conn.now in
    record {
      reference = refl;
      survives = survives_none a;
      written = λ clean inside. none_yet (g.T.Written.change c.args.moment) c.args.all.now a inside;
    }

pub loop-row-preserved : goal.loop-row-preserved
loop-row-preserved g c =
    let a = state g.S.Store c.args.tx.now.conn.now in
    let m = state g.S.Store c.loop-row.tx.conn.now in
    let b = state g.S.Store c.insert.new.tx.conn.now in
    record {
      reference = c.insert.ensures.same_reference ∙ c.loop-row.invariant.reference;
      survives = survives_both a m b c.loop-row.invariant.survives c.insert.ensures.survives;
      written = λ clean inside.
          let early : HasCleanDisk m = omega (arith, c.insert.ensures.survives.clean, clean) in
          let was = c.loop-row.invariant.written early inside in
          one_more (g.T.Written.change c.args.moment) c.args.all.now c.loop-row.row-index c.row-item.result a m b c.loop-row-test.true c.row-item.is was (c.in_ok-insert.ensures.ok clean was.mode);
    }

pub returns-in_err-insert-clause-err : goal.returns-in_err-insert-clause-err
returns-in_err-insert-clause-err g c clean inside =
    let a = state g.S.Store c.args.tx.now.conn.now in
    let m = state g.S.Store c.loop-row.tx.conn.now in
    let b = state g.S.Store c.insert.new.tx.conn.now in
    let early : HasCleanDisk m = omega (arith, c.insert.ensures.survives.clean, clean) in
    let was = c.loop-row.invariant.written early inside in
    on_err _ (keeps_then a m b was.kept (keeps_if_failed m b (c.in_err-insert.ensures.err clean was.mode)))

pub returns-in_err-insert-clause-survives : goal.returns-in_err-insert-clause-survives
returns-in_err-insert-clause-survives g c =
    let a = state g.S.Store c.args.tx.now.conn.now in
    let m = state g.S.Store c.loop-row.tx.conn.now in
    let b = state g.S.Store c.insert.new.tx.conn.now in
    survives_both a m b c.loop-row.invariant.survives c.insert.ensures.survives

pub returns-clause-ok : goal.returns-clause-ok
returns-clause-ok g c clean inside =
    let a = state g.S.Store c.args.tx.now.conn.now in
    let m = state g.S.Store c.loop-row.tx.conn.now in
    all_written (g.T.Written.change c.args.moment) c.args.all.now c.loop-row.row-index a m c.loop-row-test.false (c.loop-row.invariant.written clean inside)
