use Rattle.std.proofs.Common.{not, ap, ◌∙◌}
use Rattle.sqlite.specs.Held.{state}
use Rattle.sqlite.proofs.StateLemmas.{survives_weaker}
use Rattle.tables_bodies.specs.Counting.{arrival_counts}
use Rattle.tables_meaning.specs.Coming.{ended_number, with_ended}
use Rattle.tables_meaning.proofs.TakingLemmas.{both_if, both_on, delivery_ends, delivery_new, delivery_turns}
use Rattle.book.specs.Book.{span}
use Rattle.keep_tables.proofs.FoundArrivals.{apart_once_ended, counts_if_some}
use Rattle.keep_tables.proofs.coming.finish_delivery.Goals as goal

pub returns-clause-done : goal.returns-clause-done
returns-clause-done g c clean config judged shown dates body keeps comes printed deliverable =
    let old = state g.S.Store c.args.conn.now in
    let settled = c.is_autocommit-idle.ensures.settled (c.is_autocommit-idle.ensures.value ∙ ap not c.requires.idle) in
    let new = (state g.S.Store c.finish_body.new.conn).committed in
    both_on c.finish_body.result (c.finish_body.ensures.done clean) (c.finish_body.ensures.answer clean) (λ did isnew found. (
      delivery_turns old settled did.was_open config judged shown dates keeps c.args.finished.now.body c.args.finished.now.pieces body comes c.args.finished.now.name.now c.args.finished.now.print c.args.finished.now.moment printed c.requires.in_time deliverable (λ t held. (found t held).0) new did.held,
      delivery_ends old settled did.was_open config judged shown dates keeps c.args.finished.now.body c.args.finished.now.pieces body comes c.args.finished.now.name.now c.args.finished.now.print c.args.finished.now.moment printed c.requires.in_time deliverable (λ t held. (found t held).0) new did.held,
    ))

pub returns-clause-new : goal.returns-clause-new
returns-clause-new g c clean config judged shown dates body keeps comes printed deliverable same =
    let old = state g.S.Store c.args.conn.now in
    let settled = c.is_autocommit-idle.ensures.settled (c.is_autocommit-idle.ensures.value ∙ ap not c.requires.idle) in
    let finished = c.args.finished.now in
    both_if c.finish_body.result (c.finish_body.ensures.done clean) (c.finish_body.ensures.answer clean) (λ did isnew found.
    delivery_new old settled did.was_open config judged shown dates keeps c.args.finished.now.body c.args.finished.now.pieces body comes c.args.finished.now.name.now c.args.finished.now.print c.args.finished.now.moment printed c.requires.in_time deliverable (λ t held. (found t held).0) isnew
    (λ t held. (found t held).1
    ∙ ap (λ span. not (arrival_counts span finished.moment finished.name.now (ended_number finished.body finished.print t) (with_ended finished.body finished.print t))) same
    ∙ ap not (counts_if_some (with_ended finished.body finished.print t) (apart_once_ended old settled did.was_open keeps finished.body finished.print t held) (span config) finished.moment
    finished.name.now (ended_number finished.body finished.print t))))

pub returns-clause-crash : goal.returns-clause-crash
returns-clause-crash g c =
    let old = state g.S.Store c.args.conn.now in
    let settled = c.is_autocommit-idle.ensures.settled (c.is_autocommit-idle.ensures.value ∙ ap not c.requires.idle) in
    survives_weaker old (state g.S.Store c.finish_body.new.conn) _ _ (λ clean trees may. (
      may.0.0,
      may.0.1,
      may.0.2,
      λ config judged shown dates body keeps comes printed deliverable. delivery_turns old settled may.0.2 config judged shown dates keeps c.args.finished.now.body c.args.finished.now.pieces body comes c.args.finished.now.name.now c.args.finished.now.print c.args.finished.now.moment printed c.requires.in_time deliverable may.1 may.0.0 may.0.3,
    )) c.finish_body.ensures.crash
