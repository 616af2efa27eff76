use Rattle.std.proofs.Common.{ℕ, ap, sym, ◌∙◌}
use Rattle.std.specs.Option.{option_and_then}
use Rattle.sqlite.specs.Held.{state}
use Rattle.tables.specs.declared.rows.BodyRow.{BodyRow}
use Rattle.tables_meaning.proofs.ReadsLemmas.{survives_foreign}
use Rattle.tables_bodies.proofs.file_pieces.print_numbered.Goals as goal

pub returns-in_err-found-clause-survives : goal.returns-in_err-found-clause-survives
returns-in_err-found-clause-survives g c = survives_foreign (state g.S.Store c.args.conn.now) (state g.S.Store c.body_numbered.new.conn) c.body_numbered.ensures.survives

pub returns-in_default-clause-survives : goal.returns-in_default-clause-survives
returns-in_default-clause-survives g c = survives_foreign (state g.S.Store c.args.conn.now) (state g.S.Store c.body_numbered.new.conn) c.body_numbered.ensures.survives

pub returns-in_default-print-clause-survives : goal.returns-in_default-print-clause-survives
returns-in_default-print-clause-survives g c = survives_foreign (state g.S.Store c.args.conn.now) (state g.S.Store c.body_numbered.new.conn) c.body_numbered.ensures.survives

pub returns-clause-ok : goal.returns-clause-ok
returns-clause-ok g c clean t was =
    let read = c.in_ok-found.ensures.ok clean t was in
    (ap (option_and_then (λ (x : ℕ × BodyRow). x.1.print)) (sym read.0 ∙ c.in-Some.is) ∙ c.in-Some-print.is, read.1)

pub returns-clause-survives : goal.returns-clause-survives
returns-clause-survives g c = survives_foreign (state g.S.Store c.args.conn.now) (state g.S.Store c.body_numbered.new.conn) c.body_numbered.ensures.survives
