use Rattle.std.proofs.Common.{Some, ℕ, sym, ap, ◌∙◌, arith}
use Rattle.std.specs.Option.{option_map}
use Rattle.sqlite.specs.State.{HasCleanDisk}
use Rattle.sqlite.specs.Held.{state}
use Rattle.sqlite.proofs.Callers.{unchanged_then}
use Rattle.tables.specs.declared.rows.ArrivalRow.{ArrivalRow}
use Rattle.tables_meaning.specs.Kept.{bytes_of}
use Rattle.tables_meaning.proofs.ReadsLemmas.{held_after, survives_after, survives_foreign}
use Rattle.keep_tables.proofs.arrived.body_under.Goals as goal

pub returns-in_err-found-clause-survives : goal.returns-in_err-found-clause-survives
returns-in_err-found-clause-survives g c = survives_foreign (state g.S.Store c.args.conn.now) (state g.S.Store c.arrival_at.new.conn) c.arrival_at.ensures.survives

pub returns-in_err-bytes-in-Some-clause-survives : goal.returns-in_err-bytes-in-Some-clause-survives
returns-in_err-bytes-in-Some-clause-survives g c =
    let old = state g.S.Store c.args.conn.now in
    let mid = state g.S.Store c.arrival_at.new.conn in
    let new = state g.S.Store c.read_body.new.conn in
    survives_after old mid new (λ clean t was. (c.in_ok-found.ensures.ok clean t was).1) (survives_foreign old mid c.arrival_at.ensures.survives) (survives_foreign mid new c.read_body.ensures.survives)

pub returns-in_ok-bytes-in-Some-clause-ok : goal.returns-in_ok-bytes-in-Some-clause-ok
returns-in_ok-bytes-in-Some-clause-ok g c clean t was =
    let old = state g.S.Store c.args.conn.now in
    let mid = state g.S.Store c.arrival_at.new.conn in
    let new = state g.S.Store c.read_body.new.conn in
    let early : HasCleanDisk mid = omega (arith, c.read_body.ensures.survives.clean, clean) in
    let first = c.in_ok-found.ensures.ok early t was in
    let second = c.in_ok-bytes-in-Some.ensures.ok clean t (held_after old mid first.1 t was) in
    (ap Some second.0 ∙ ap (option_map (λ (x : ℕ × ArrivalRow). bytes_of t x.1.body)) (sym c.in-Some.is ∙ first.0), unchanged_then old mid new first.1 second.1)

pub returns-in_ok-bytes-in-Some-clause-survives : goal.returns-in_ok-bytes-in-Some-clause-survives
returns-in_ok-bytes-in-Some-clause-survives g c =
    let old = state g.S.Store c.args.conn.now in
    let mid = state g.S.Store c.arrival_at.new.conn in
    let new = state g.S.Store c.read_body.new.conn in
    survives_after old mid new (λ clean t was. (c.in_ok-found.ensures.ok clean t was).1) (survives_foreign old mid c.arrival_at.ensures.survives) (survives_foreign mid new c.read_body.ensures.survives)

pub returns-in-None-clause-ok : goal.returns-in-None-clause-ok
returns-in-None-clause-ok g c clean t was =
    let first = c.in_ok-found.ensures.ok clean t was in (ap (option_map (λ (x : ℕ × ArrivalRow). bytes_of t x.1.body)) (sym c.in-None.is ∙ first.0), first.1)

pub returns-in-None-clause-survives : goal.returns-in-None-clause-survives
returns-in-None-clause-survives g c = survives_foreign (state g.S.Store c.args.conn.now) (state g.S.Store c.arrival_at.new.conn) c.arrival_at.ensures.survives
