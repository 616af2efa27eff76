use Rattle.std.proofs.Common.{IsTrue, arith, ◌∙◌}
use Rattle.sqlite.specs.State.{HasCleanDisk}
use Rattle.sqlite.specs.Held.{state}
use Rattle.sqlite.proofs.StateLemmas.{survives_then}
use Rattle.tables.proofs.TransactionLemmas.{keeps_if_changed, keeps_then}
use Rattle.tables_meaning.proofs.DeliverLemmas.{wants_more}
use Rattle.tables_bodies.proofs.arriving.insert_wants.Goals as goal

pub loop-entry-preserved : goal.loop-entry-preserved
loop-entry-preserved g c =
    let old = state g.S.Store c.args.tx.now.conn.now in
    let mid = state g.S.Store c.loop-entry.tx.conn.now in
    let new = state g.S.Store c.insert_entry.new.tx.conn.now in
    let early = λ (clean : HasCleanDisk new). let it : HasCleanDisk mid = omega (arith, c.insert_entry.ensures.survives.clean, clean) in it in
    let added = λ (clean : HasCleanDisk new) (inside : IsTrue old.in_transaction). c.in_ok-insert_entry.ensures.ok clean (c.loop-entry.invariant.mode (early clean) inside) in
    record {
      reference = c.insert_entry.ensures.same_reference ∙ c.loop-entry.invariant.reference;
      survives = survives_then old mid new (λ _. ⊥) (λ _. ⊥) (λ _. ⊥) (λ _ db none. none) (λ _ db none. none) c.loop-entry.invariant.survives c.insert_entry.ensures.survives;
      mode = λ clean inside. (added clean inside).shown.mode;
      kept = λ clean inside. keeps_then old mid new (c.loop-entry.invariant.kept (early clean) inside) (keeps_if_changed mid new _ (added clean inside));
      did = λ clean inside up.
          wants_more old mid new c.args.upload c.args.entries.now c.loop-entry.entry-index c.entry-item.result c.loop-entry-test.true c.entry-item.is (c.loop-entry.invariant.did (early clean) inside up) (added clean inside);
    }
