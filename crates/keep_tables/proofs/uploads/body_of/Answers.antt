use Rattle.std.proofs.Common.{Some, ap, sym, ◌∙◌, arith}
use Rattle.std.specs.Option.{option_map}
use Rattle.sqlite.specs.Held.{state}
use Rattle.sqlite.specs.State.{HasCleanDisk}
use Rattle.sqlite.proofs.Callers.{unchanged_then}
use Rattle.tables_meaning.specs.Kept.{bytes_of}
use Rattle.tables_meaning.specs.Reads.{bytes_with}
use Rattle.tables_meaning.proofs.ReadsLemmas.{held_after, survives_after, survives_foreign}
use Rattle.keep_tables.proofs.uploads.body_of.Goals as goal

pub returns-in_err-id-clause-survives : goal.returns-in_err-id-clause-survives
returns-in_err-id-clause-survives g c =
    survives_foreign (state g.S.Store c.args.conn.now) (state g.S.Store c.body_with_print.new.conn) c.body_with_print.ensures.survives

pub returns-in_default-clause-survives : goal.returns-in_default-clause-survives
returns-in_default-clause-survives g c =
    survives_foreign (state g.S.Store c.args.conn.now) (state g.S.Store c.body_with_print.new.conn) c.body_with_print.ensures.survives

pub returns-in_err-body-clause-survives : goal.returns-in_err-body-clause-survives
returns-in_err-body-clause-survives g c =
    let old = state g.S.Store c.args.conn.now in
    let mid = state g.S.Store c.body_with_print.new.conn in
    let new = state g.S.Store c.read_body.new.conn in
    survives_after old mid new (λ clean t was. (c.in_ok-id.ensures.ok clean t was).1) (survives_foreign old mid c.body_with_print.ensures.survives) (survives_foreign mid new c.read_body.ensures.survives)

pub returns-then-ne-clause-survives : goal.returns-then-ne-clause-survives
returns-then-ne-clause-survives g c =
    let old = state g.S.Store c.args.conn.now in
    let mid = state g.S.Store c.body_with_print.new.conn in
    let new = state g.S.Store c.read_body.new.conn in
    survives_after old mid new (λ clean t was. (c.in_ok-id.ensures.ok clean t was).1) (survives_foreign old mid c.body_with_print.ensures.survives) (survives_foreign mid new c.read_body.ensures.survives)

pub returns-clause-ok : goal.returns-clause-ok
unfolding bytes_with
returns-clause-ok g c clean t was =
    let old = state g.S.Store c.args.conn.now in
    let mid = state g.S.Store c.body_with_print.new.conn in
    let new = state g.S.Store c.read_body.new.conn in
    let early : HasCleanDisk mid = omega (arith, c.read_body.ensures.survives.clean, clean) in
    let first = c.in_ok-id.ensures.ok early t was in
    let second = c.in_ok-body.ensures.ok clean t (held_after old mid first.1 t was) in
    (ap (option_map (bytes_of t)) (sym first.0 ∙ c.in-Some.is) ∙ ap Some (sym second.0), unchanged_then old mid new first.1 second.1)

pub returns-clause-survives : goal.returns-clause-survives
returns-clause-survives g c =
    let old = state g.S.Store c.args.conn.now in
    let mid = state g.S.Store c.body_with_print.new.conn in
    let new = state g.S.Store c.read_body.new.conn in
    survives_after old mid new (λ clean t was. (c.in_ok-id.ensures.ok clean t was).1) (survives_foreign old mid c.body_with_print.ensures.survives) (survives_foreign mid new c.read_body.ensures.survives)
