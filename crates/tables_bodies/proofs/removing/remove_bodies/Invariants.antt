use Rattle.std.proofs.Common.{◌≡◌, ◌<◌, IsTrue}
use Rattle.sqlite.specs.Held.{state}
use Rattle.sqlite.specs.State.{HasCleanDisk, Survives}
use Rattle.tables_meaning.specs.Amending.{Makes}
use Rattle.tables_meaning.proofs.AmendLemmas.{so_far}
use Rattle.tables_meaning.specs.Finished.{without_whole}
use Rattle.tables_bodies.proofs.removing.remove_bodies.Given as goal

-- the bodies so far are gone, and then the connection was open
abbrev pub invariant-loop-id : goal.invariant-loop-id
invariant-loop-id g l = record {
  reference : l.tx.conn.ghost_name ≡ l.fn.tx.conn.ghost_name;
  survives : Survives (state g.S.Store l.fn.tx.conn.now) (state g.S.Store l.tx.conn.now) (λ _. ⊥);
  made : HasCleanDisk (state g.S.Store l.tx.conn.now) → IsTrue (state g.S.Store l.fn.tx.conn.now).in_transaction → Makes (state g.S.Store l.fn.tx.conn.now) (state g.S.Store l.tx.conn.now) (so_far (λ now id. without_whole id now) l.ids l.id-index);
  opened : HasCleanDisk (state g.S.Store l.tx.conn.now) → IsTrue (state g.S.Store l.fn.tx.conn.now).in_transaction → 0 < l.id-index → IsTrue (state g.S.Store l.fn.tx.conn.now).is_open;
}
