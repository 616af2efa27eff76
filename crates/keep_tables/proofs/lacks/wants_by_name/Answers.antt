use Rattle.std.proofs.Common.{ap, ◌∙◌}
use Rattle.sqlite.specs.Held.{state}
use Rattle.tables_meaning.specs.Reads.{sorted_by}
use Rattle.tables_meaning.proofs.ReadsLemmas.{survives_foreign}
use Rattle.keep_tables.specs.Moments.{name_order, wants_by_name}
use Rattle.keep_tables.proofs.lacks.wants_by_name.Goals as goal

pub returns-in_err-wants-clause-survives : goal.returns-in_err-wants-clause-survives
returns-in_err-wants-clause-survives g c = survives_foreign (state g.S.Store c.args.conn.now) (state g.S.Store c.wants_of.new.conn) c.wants_of.ensures.survives

pub returns-in_err-sorted-clause-survives : goal.returns-in_err-sorted-clause-survives
returns-in_err-sorted-clause-survives g c = survives_foreign (state g.S.Store c.args.conn.now) (state g.S.Store c.wants_of.new.conn) c.wants_of.ensures.survives

pub returns-clause-ok : goal.returns-clause-ok
unfolding wants_by_name
returns-clause-ok g c clean t was =
    let read = c.in_ok-wants.ensures.ok clean t was in
    (c.in_ok-sorted.ensures ∙ ap (sorted_by name_order) read.0, read.1)

pub returns-clause-survives : goal.returns-clause-survives
returns-clause-survives g c = survives_foreign (state g.S.Store c.args.conn.now) (state g.S.Store c.wants_of.new.conn) c.wants_of.ensures.survives
