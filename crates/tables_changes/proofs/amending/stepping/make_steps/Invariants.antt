use Rattle.std.proofs.Common.{◌≡◌, IsTrue, take, fold}
use Rattle.sqlite.specs.Held.{state}
use Rattle.sqlite.specs.State.{HasCleanDisk, Survives}
use Rattle.tables_meaning.specs.Amending.{Makes}
use Rattle.tables.specs.Rows.{Tables, Holds}
use Rattle.tables_meaning.specs.Amending.{HasAllBodies}
use Rattle.tables_meaning.specs.Making.{judged_by, with_steps}
use Rattle.tables_changes.proofs.amending.stepping.make_steps.Given as goal

-- the steps so far are made
abbrev pub invariant-loop-step : goal.invariant-loop-step
invariant-loop-step g l = record {
  reference : l.tx.conn.ghost_name ≡ l.fn.tx.conn.ghost_name;
  survives : Survives (state g.S.Store l.fn.tx.conn.now) (state g.S.Store l.tx.conn.now) (λ _. ⊥);
  made : HasCleanDisk (state g.S.Store l.tx.conn.now) → IsTrue (state g.S.Store l.fn.tx.conn.now).in_transaction → Makes (state g.S.Store l.fn.tx.conn.now) (state g.S.Store l.tx.conn.now) (λ t. with_steps l.suites l.fn.judged (take l.step-index l.steps) t);
  judged : l.judged ≡ fold judged_by l.fn.judged (take l.step-index l.steps);
  bodies : HasCleanDisk (state g.S.Store l.tx.conn.now) → IsTrue (state g.S.Store l.fn.tx.conn.now).in_transaction → (t : Tables) → Holds (state g.S.Store l.fn.tx.conn.now).now t → HasAllBodies t (take l.step-index l.steps);
}
