use Rattle.std.proofs.Common.{sym, ◌∙◌, arith}
use Rattle.std.proofs.lemmas.Result.{IfOk-weaker}
use Rattle.sqlite.specs.State.{HasCleanDisk}
use Rattle.sqlite.specs.Held.{state}
use Rattle.tables_meaning.proofs.BodySteps.{is_stored, stays_stored, unchanged_then}
use Rattle.tables_meaning.proofs.EndedLemmas.{goes_then}
use Rattle.tables_meaning.proofs.ReadsLemmas.{held_after}
use Rattle.tables_bodies.proofs.AtOnceLemmas.{all_of_it, none_stored, one_stored}
use Rattle.tables_bodies.proofs.at_once.store_body.Goals as goal

pub returns-in_ok-refuse_other_bytes-in-Some-clause-ok : goal.returns-in_ok-refuse_other_bytes-in-Some-clause-ok
returns-in_ok-refuse_other_bytes-in-Some-clause-ok g c clean inside =
    let old = state g.S.Store c.args.tx.now.conn.now in
    let mid = state g.S.Store c.body_with_print_inside.new.tx.conn.now in
    let new = state g.S.Store c.refuse_other_bytes.new.tx.conn.now in
    let early : HasCleanDisk mid = omega (arith, c.refuse_other_bytes.ensures.survives.clean, clean) in
    let file = c.args.file.now in
    let on = c.in_ok-found.ensures.goes_on early inside in
    let looks = c.in_ok-found.ensures.ok early in
    let same = c.in_ok-refuse_other_bytes-in-Some.ensures.ok clean in
    let stays =
    stays_stored old new file.print file.bytes.now c.in_ok-found.found c.in-Some.stored c.in-Some.is
    (λ t was. ((looks t was).0, unchanged_then old mid new (looks t was).1 (same t (held_after old mid (looks t was).1 t was)).1))
    (goes_then old mid new on (c.in_ok-refuse_other_bytes-in-Some.ensures.goes_on clean on.mode)) in (
      stays.0,
      λ t was. (
        one_stored file.print file.bytes.now t c.in-Some.stored (sym c.in-Some.is ∙ (looks t was).0) (same t (held_after old mid (looks t was).1 t was)).0,
        stays.1 t was,
      ),
    )

pub returns-in-None-clause-ok : goal.returns-in-None-clause-ok
returns-in-None-clause-ok g c clean inside =
    let old = state g.S.Store c.args.tx.now.conn.now in
    let mid = state g.S.Store c.body_with_print_inside.new.tx.conn.now in
    let new = state g.S.Store c.add_body.new.tx.conn.now in
    let early : HasCleanDisk mid = omega (arith, c.add_body.ensures.survives.clean, clean) in
    let file = c.args.file.now in
    let on = c.in_ok-found.ensures.goes_on early inside in
    let looks = c.in_ok-found.ensures.ok early in
    IfOk-weaker c.add_body.result _ _ (λ id h.
    let stored =
    is_stored old mid new file.print file.bytes.now c.in_ok-found.found id c.in-None.is looks on
    (all_of_it mid new file.print file.bytes.now c.requires.one_piece.0 c.requires.one_piece.1 h.0) h.1 in
    (stored.0, λ t was. (none_stored file.print file.bytes.now t (sym c.in-None.is ∙ (looks t was).0), stored.1 t was)))
    (c.add_body.ensures.ok clean on.mode)
