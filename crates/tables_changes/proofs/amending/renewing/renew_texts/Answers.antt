use Rattle.std.proofs.Common.{◌∙◌, arith}
use Rattle.sqlite.specs.State.{HasCleanDisk}
use Rattle.sqlite.specs.Held.{state}
use Rattle.tables.specs.Texts.{with_new_text}
use Rattle.tables_meaning.proofs.AmendLemmas.{one_more, all_made, survives_both, makes_if_changed}
use Rattle.tables_changes.proofs.amending.renewing.renew_texts.Goals as goal

pub loop-text-preserved : goal.loop-text-preserved
loop-text-preserved g c =
    let a = state g.S.Store c.args.tx.now.conn.now in
    let m = state g.S.Store c.loop-text.tx.conn.now in
    let b = state g.S.Store c.update_text.new.tx.conn.now in
    record {
      reference = c.update_text.ensures.same_reference ∙ c.loop-text.invariant.reference;
      survives = survives_both a m b c.loop-text.invariant.survives c.update_text.ensures.survives;
      made = λ clean inside.
          let early : HasCleanDisk m = omega (arith, c.update_text.ensures.survives.clean, clean) in
          let was = c.loop-text.invariant.made early inside in
          one_more (λ now x. with_new_text x.path x.text now) c.args.texts.now c.loop-text.text-index c.text-item.result a m b c.loop-text-test.true c.text-item.is was (makes_if_changed m b _ (rw (c.as_str.ensures, c.as_slice.ensures) at (c.in_ok-update_text.ensures.ok clean was.mode)));
    }

pub returns-clause-ok : goal.returns-clause-ok
returns-clause-ok g c clean inside =
    let a = state g.S.Store c.args.tx.now.conn.now in
    let m = state g.S.Store c.loop-text.tx.conn.now in
    all_made (λ now x. with_new_text x.path x.text now) c.args.texts.now c.loop-text.text-index a m c.loop-text-test.false (c.loop-text.invariant.made clean inside)
