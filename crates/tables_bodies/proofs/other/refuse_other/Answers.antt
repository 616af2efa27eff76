use Rattle.std.proofs.Common.{sym, ◌∙◌, arith}
use Rattle.sqlite.specs.State.{HasCleanDisk}
use Rattle.sqlite.specs.Held.{state}
use Rattle.tables_meaning.proofs.BodySteps.{unchanged_then}
use Rattle.tables_meaning.proofs.EndedLemmas.{goes_then, none_found, one_found}
use Rattle.tables_meaning.proofs.ReadsLemmas.{held_after}
use Rattle.tables_bodies.proofs.other.refuse_other.Goals as goal

pub returns-in_default-clause-ok : goal.returns-in_default-clause-ok
returns-in_default-clause-ok g c clean t was =
    let read = c.in_ok-found.ensures.ok clean t was in
    (none_found c.args.body c.args.pieces c.args.print.now t (sym c.in_default.is ∙ read.0), read.1)

pub returns-clause-ok : goal.returns-clause-ok
returns-clause-ok g c clean t was =
    let old = state g.S.Store c.args.tx.now.conn.now in
    let mid = state g.S.Store c.body_with_print_inside.new.tx.conn.now in
    let new = state g.S.Store c.is_same.new.tx.conn.now in
    let early : HasCleanDisk mid = omega (arith, c.is_same.ensures.survives.clean, clean) in
    let first = c.in_ok-found.ensures.ok early t was in
    let second = c.in_ok-same.ensures.ok clean t (held_after old mid first.1 t was) in
    (one_found c.args.body c.args.pieces c.args.print.now t c.in-Some.stored (sym c.in-Some.is ∙ first.0) (second.0 c.if-not-same.false), unchanged_then old mid new first.1 second.1)

pub returns-clause-goes_on : goal.returns-clause-goes_on
returns-clause-goes_on g c clean inside =
    let old = state g.S.Store c.args.tx.now.conn.now in
    let mid = state g.S.Store c.body_with_print_inside.new.tx.conn.now in
    let new = state g.S.Store c.is_same.new.tx.conn.now in
    let early : HasCleanDisk mid = omega (arith, c.is_same.ensures.survives.clean, clean) in
    let on = c.in_ok-found.ensures.goes_on early inside in
    goes_then old mid new on (c.in_ok-same.ensures.goes_on clean on.mode)
