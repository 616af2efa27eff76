use Rattle.std.proofs.Common.{refl}
use Rattle.sqlite.specs.Held.{state}
use Rattle.tables_bodies.proofs.KnownLemmas.{known_goes, known_stays}
use Rattle.tables_bodies.proofs.whole.remove_known.Goals as goal

pub returns-in_ok-remove_body-in-Some-clause-ok : goal.returns-in_ok-remove_body-in-Some-clause-ok
returns-in_ok-remove_body-in-Some-clause-ok g c clean inside up =
    (rw c.in-Some.is (known_goes (state g.S.Store c.args.tx.now.conn.now) (state g.S.Store c.remove_body.new.tx.conn.now) c.in-Some.id (c.in_ok-remove_body-in-Some.ensures.ok clean inside)), refl)

pub returns-in-None-clause-ok : goal.returns-in-None-clause-ok
returns-in-None-clause-ok g c clean inside up = (rw c.in-None.is (known_stays (state g.S.Store c.args.tx.now.conn.now) up inside), refl)
