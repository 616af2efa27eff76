use Rattle.std.proofs.Common.{◌∙◌, arith, option_map}
use Rattle.std.proofs.lemmas.Result.{IfOk-weaker}
use Rattle.sqlite.specs.State.{HasCleanDisk}
use Rattle.sqlite.specs.Held.{state}
use Rattle.tables.specs.Rows.{Holds, Tables}
use Rattle.tables_meaning.proofs.BodySteps.{unchanged_then}
use Rattle.tables_meaning.proofs.EndedLemmas.{finished_changes, goes_then}
use Rattle.tables_meaning.proofs.ReadsLemmas.{held_after}
use Rattle.tables_bodies.proofs.finishing.finish_inside.Goals as goal

pub returns-clause-ok : goal.returns-clause-ok
returns-clause-ok g c clean inside =
    let a = state g.S.Store c.args.tx.now.conn.now in
    let b = state g.S.Store c.refuse_other.new.tx.conn.now in
    let m = state g.S.Store c.record_inside.new.tx.conn.now in
    let d = state g.S.Store c.end_body.new.tx.conn.now in
    let finished = c.args.finished.now in
    let clean_m : HasCleanDisk m = omega (arith, c.end_body.ensures.survives.clean, clean) in
    let clean_b : HasCleanDisk b = omega (arith, c.record_inside.ensures.survives.clean, clean_m) in
    let on_b = c.in_ok-refuse_other.ensures.goes_on clean_b inside in
    let on_m = c.in_ok-found.ensures.goes_on clean_m on_b.mode on_b.is_open in
    let refused = c.in_ok-refuse_other.ensures.ok clean_b in
    let listed = λ (t : Tables) (was : Holds a.now t). c.in_ok-found.ensures.ok clean_m on_b.is_open t (held_after a b (refused t was).1 t was) in
    IfOk-weaker c.end_body.result _ _ (λ new h. (
      finished_changes finished.name.now finished.body finished.print finished.moment (option_map (λ entries. entries.now) c.entries_of.result) a m d (goes_then a b m on_b on_m)
          (λ t was. (unchanged_then a b m (refused t was).1 (listed t was).1, c.entries_of.ensures ∙ (listed t was).0)) h.0,
      λ t was. ((refused t was).0, h.1 t (held_after a m (unchanged_then a b m (refused t was).1 (listed t was).1) t was)),
    )) (c.end_body.ensures.ok clean on_m.mode)
