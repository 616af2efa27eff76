use Rattle.std.proofs.Common.{find, is_some, ap, ◌∙◌}
use Rattle.sqlite.specs.Held.{state}
use Rattle.tables.specs.Arrivals.{is_arrival}
use Rattle.tables_meaning.proofs.ReadsLemmas.{survives_foreign}
use Rattle.tables_bodies.proofs.sparing.has_arrived_under.Goals as goal

pub returns-in_err-found-clause-survives : goal.returns-in_err-found-clause-survives
returns-in_err-found-clause-survives g c = survives_foreign (state g.S.Store c.args.conn.now) (state g.S.Store c.arrival_at.new.conn) c.arrival_at.ensures.survives

pub returns-clause-ok : goal.returns-clause-ok
returns-clause-ok g c clean t was =
    let read = c.in_ok-found.ensures.ok clean t was in
    (c.is_some.ensures ∙ ap is_some read.0 ∙ ap (λ name. is_some (find (λ x. is_arrival name c.args.body x.1) t.arrivals)) c.file_name-name.ensures, read.1)

pub returns-clause-survives : goal.returns-clause-survives
returns-clause-survives g c = survives_foreign (state g.S.Store c.args.conn.now) (state g.S.Store c.arrival_at.new.conn) c.arrival_at.ensures.survives
