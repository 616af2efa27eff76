use Rattle.std.proofs.Common.{◌≡◌, IsTrue}
use Rattle.sqlite.specs.Held.{state}
use Rattle.sqlite.specs.State.{HasCleanDisk, Survives}
use Rattle.tables_meaning.specs.Amending.{Makes}
use Rattle.tables_meaning.specs.Cleaning.{with_gone}
use Rattle.tables_meaning.proofs.AmendLemmas.{so_far}
use Rattle.tables_bodies.proofs.cleaning.take_all_away.Given as goal

-- the arrivals so far are gone
abbrev pub invariant-loop-arrival : goal.invariant-loop-arrival
invariant-loop-arrival g l = record {
  reference : l.tx.conn.ghost_name ≡ l.fn.tx.conn.ghost_name;
  survives : Survives (state g.S.Store l.fn.tx.conn.now) (state g.S.Store l.tx.conn.now) (λ _. ⊥);
  made : HasCleanDisk (state g.S.Store l.tx.conn.now) → IsTrue (state g.S.Store l.fn.tx.conn.now).in_transaction → Makes (state g.S.Store l.fn.tx.conn.now) (state g.S.Store l.tx.conn.now) (so_far (λ now x. with_gone x now) l.arrivals l.arrival-index);
}
