use Rattle.std.proofs.Common.{◌≡◌, IsTrue}
use Rattle.sqlite.specs.Held.{state}
use Rattle.sqlite.specs.State.{HasCleanDisk, Survives}
use Rattle.tables_meaning.specs.Amending.{Makes}
use Rattle.tables_meaning.proofs.AmendLemmas.{so_far}
use Rattle.tables.specs.Texts.{with_new_text}
use Rattle.tables_changes.proofs.amending.renewing.renew_texts.Given as goal

-- the texts so far are new
abbrev pub invariant-loop-text : goal.invariant-loop-text
invariant-loop-text g l = record {
  reference : l.tx.conn.ghost_name ≡ l.fn.tx.conn.ghost_name;
  survives : Survives (state g.S.Store l.fn.tx.conn.now) (state g.S.Store l.tx.conn.now) (λ _. ⊥);
  made : HasCleanDisk (state g.S.Store l.tx.conn.now) → IsTrue (state g.S.Store l.fn.tx.conn.now).in_transaction → Makes (state g.S.Store l.fn.tx.conn.now) (state g.S.Store l.tx.conn.now) (so_far (λ now x. with_new_text x.path x.text now) l.texts l.text-index);
}
