use Rattle.std.proofs.Common.{◌∙◌, arith}
use Rattle.sqlite.specs.State.{HasCleanDisk}
use Rattle.sqlite.specs.Held.{state}
use Rattle.tables.specs.Files.{without_file}
use Rattle.tables_meaning.proofs.AmendLemmas.{one_more, all_made, survives_both, makes_if_changed}
use Rattle.tables_changes.proofs.amending.pooling.remove_files.Goals as goal

pub loop-file-preserved : goal.loop-file-preserved
loop-file-preserved g c =
    let a = state g.S.Store c.args.tx.now.conn.now in
    let m = state g.S.Store c.loop-file.tx.conn.now in
    let b = state g.S.Store c.delete_file.new.tx.conn.now in
    record {
      reference = c.delete_file.ensures.same_reference ∙ c.loop-file.invariant.reference;
      survives = survives_both a m b c.loop-file.invariant.survives c.delete_file.ensures.survives;
      made = λ clean inside.
          let early : HasCleanDisk m = omega (arith, c.delete_file.ensures.survives.clean, clean) in
          let was = c.loop-file.invariant.made early inside in
          one_more (λ now f. without_file f.path now) c.args.files.now c.loop-file.file-index c.file-item.result a m b c.loop-file-test.true c.file-item.is was (makes_if_changed m b _ (rw c.as_str.ensures at (c.in_ok-delete_file.ensures.ok clean was.mode)));
    }

pub returns-clause-ok : goal.returns-clause-ok
returns-clause-ok g c clean inside =
    let a = state g.S.Store c.args.tx.now.conn.now in
    let m = state g.S.Store c.loop-file.tx.conn.now in
    all_made (λ now f. without_file f.path now) c.args.files.now c.loop-file.file-index a m c.loop-file-test.false (c.loop-file.invariant.made clean inside)
