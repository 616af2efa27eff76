use Rattle.std.proofs.Common.{not, ap, sym, ◌∙◌, ◌&&◌}
use Rattle.sqlite.specs.Held.{state}
use Rattle.tables.specs.Rows.{tables_in}
use Rattle.tables.proofs.ReadLemmas.{survives_none}
use Rattle.tables_meaning.proofs.ReadsLemmas.{rests_itself, undone_if_rested}
use Rattle.tables_bodies.specs.Swept.{have_all_arrived}
use Rattle.tables_bodies.proofs.sparing.needs_sweep.Goals as goal

pub returns-then-not-takes-clause-unchanged : goal.returns-then-not-takes-clause-unchanged
returns-then-not-takes-clause-unchanged g c clean = let s = state g.S.Store c.args.conn.now in undone_if_rested s s (rests_itself s)

pub returns-then-not-takes-clause-sweeps : goal.returns-then-not-takes-clause-sweeps
returns-then-not-takes-clause-sweeps g c clean config judged shown dates keeps =
    let t = tables_in (state g.S.Store c.args.conn.now).committed in
    ap (λ b. b && not (c.args.whole && have_all_arrived t c.args.steps.now)) (sym c.if-not-takes.true ∙ c.some_take_files-takes.ensures)

pub returns-then-not-takes-clause-survives : goal.returns-then-not-takes-clause-survives
returns-then-not-takes-clause-survives g c = survives_none (state g.S.Store c.args.conn.now)

pub returns-then-not-whole-clause-unchanged : goal.returns-then-not-whole-clause-unchanged
returns-then-not-whole-clause-unchanged g c clean = let s = state g.S.Store c.args.conn.now in undone_if_rested s s (rests_itself s)

pub returns-then-not-whole-clause-sweeps : goal.returns-then-not-whole-clause-sweeps
returns-then-not-whole-clause-sweeps g c clean config judged shown dates keeps =
    let t = tables_in (state g.S.Store c.args.conn.now).committed in
    let takes = sym c.if-not-takes.false ∙ c.some_take_files-takes.ensures in
    λ i. takes i && not ((sym c.if-not-whole.true) i && have_all_arrived t c.args.steps.now)

pub returns-then-not-whole-clause-survives : goal.returns-then-not-whole-clause-survives
returns-then-not-whole-clause-survives g c = survives_none (state g.S.Store c.args.conn.now)

pub returns-clause-sweeps : goal.returns-clause-sweeps
returns-clause-sweeps g c clean config judged shown dates keeps =
    let takes = sym c.if-not-takes.false ∙ c.some_take_files-takes.ensures in
    let read = c.in_ok-arrived.ensures.arrived clean config judged shown dates keeps in
    λ i. takes i && not ((sym c.if-not-whole.false) i && read i)
