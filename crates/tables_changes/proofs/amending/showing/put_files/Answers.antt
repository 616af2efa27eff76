use Rattle.std.proofs.Common.{ap, ◌∙◌, arith, ◌+◌, length, refl}
use Rattle.sqlite.specs.State.{HasCleanDisk}
use Rattle.sqlite.specs.Held.{state}
use Rattle.tables.specs.Rows.{with_ref}
use Rattle.tables_meaning.specs.Kept.{refs_for, ref_for}
use Rattle.tables_meaning.proofs.AmendLemmas.{one_more, all_made, survives_both, length_refs, ref_at}
use Rattle.tables_changes.proofs.amending.showing.put_files.Goals as goal

pub loop-at-preserved : goal.loop-at-preserved
loop-at-preserved g c =
    let a = state g.S.Store c.args.tx.now.conn.now in
    let m = state g.S.Store c.loop-at.tx.conn.now in
    let b = state g.S.Store c.put_file.new.tx.conn.now in
    record {
      reference = c.put_file.ensures.same_reference ∙ c.loop-at.invariant.reference;
      survives = survives_both a m b c.loop-at.invariant.survives c.put_file.ensures.survives;
      made = λ clean inside.
          let early : HasCleanDisk m = omega (arith, c.put_file.ensures.survives.clean, clean) in
          let was = c.loop-at.invariant.made early inside in
          one_more (λ now r. with_ref r now) (refs_for c.args.id c.args.item.now) c.loop-at.at (ref_for c.args.id (c.loop-at.at + 1, c.index-files-at.result)) a m b (omega (arith, length_refs c.args.id c.args.item.now, ap length c.as_slice-files.ensures, c.loop-at-test.true)) (ref_at c.args.id c.args.item.now c.loop-at.at (c.loop-at.at + 1) c.index-files-at.result _ (rw c.as_slice-files.ensures at c.loop-at-test.true) (rw c.as_slice-files.ensures at c.index-files-at.is) (omega arith) refl) was (c.in_ok-put_file.ensures.ok clean was.mode);
    }

pub returns-clause-ok : goal.returns-clause-ok
returns-clause-ok g c clean inside =
    let a = state g.S.Store c.args.tx.now.conn.now in
    let m = state g.S.Store c.loop-at.tx.conn.now in
    all_made (λ now r. with_ref r now) (refs_for c.args.id c.args.item.now) c.loop-at.at a m (omega (arith, length_refs c.args.id c.args.item.now, ap length c.as_slice-files.ensures, c.loop-at-test.false)) (c.loop-at.invariant.made clean inside)
