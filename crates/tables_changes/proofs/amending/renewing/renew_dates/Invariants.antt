use Rattle.std.proofs.Common.{◌≡◌, if◌then◌else◌, IsTrue}
use Rattle.std.specs.List.{enumerate_from}
use Rattle.sqlite.specs.Held.{state}
use Rattle.sqlite.specs.State.{HasCleanDisk, Survives}
use Rattle.tables_meaning.specs.Amending.{Makes}
use Rattle.tables_meaning.proofs.AmendLemmas.{so_far}
use Rattle.book.specs.Scan.{some_touches}
use Rattle.tables.specs.Dates.{with_new_date}
use Rattle.tables_changes.proofs.amending.renewing.renew_dates.Given as goal

-- the dates so far are set
abbrev pub invariant-loop-at : goal.invariant-loop-at
invariant-loop-at g l = record {
  reference : l.tx.conn.ghost_name ≡ l.fn.tx.conn.ghost_name;
  survives : Survives (state g.S.Store l.fn.tx.conn.now) (state g.S.Store l.tx.conn.now) (λ _. ⊥);
  made : HasCleanDisk (state g.S.Store l.tx.conn.now) → IsTrue (state g.S.Store l.fn.tx.conn.now).in_transaction → Makes (state g.S.Store l.fn.tx.conn.now) (state g.S.Store l.tx.conn.now) (so_far (λ now s. if some_touches s.0 l.steps then with_new_date s.1.codename l.moment now else now) (enumerate_from 0 l.suites) l.at);
}
