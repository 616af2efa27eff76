use Rattle.std.proofs.Common.{not, ap, ◌∙◌}
use Rattle.sqlite.specs.Held.{state}
use Rattle.sqlite.proofs.StateLemmas.{survives_weaker}
use Rattle.tables_meaning.proofs.TakingLemmas.{both_if, both_on}
use Rattle.keep_tables.proofs.AtOnceLemmas.{at_once_ends, at_once_new, at_once_turns}
use Rattle.keep_tables.proofs.coming.deliver_at_once.Goals as goal

pub returns-clause-done : goal.returns-clause-done
returns-clause-done g c clean config judged shown dates keeps coming deliverable =
    let old = state g.S.Store c.args.conn.now in
    let settled = c.is_autocommit-idle.ensures.settled (c.is_autocommit-idle.ensures.value ∙ ap not c.requires.idle) in
    let file = c.args.file.now in
    let new = (state g.S.Store c.take_one_piece.new.conn).committed in
    both_on c.take_one_piece.result (c.take_one_piece.ensures.done clean) (c.take_one_piece.ensures.answer clean) (λ did isnew found. (
      at_once_turns old settled did.was_open config judged shown dates keeps coming file.bytes.now file.print c.requires.printed (λ t held. (found t held).0)
          file.name.now file.moment c.requires.in_time deliverable new did.held,
      at_once_ends old settled did.was_open config judged shown dates keeps coming file.bytes.now file.print c.requires.printed (λ t held. (found t held).0)
          file.name.now file.moment c.requires.in_time deliverable new did.held,
    ))

pub returns-clause-new : goal.returns-clause-new
returns-clause-new g c clean config judged shown dates keeps coming deliverable same =
    let old = state g.S.Store c.args.conn.now in
    let settled = c.is_autocommit-idle.ensures.settled (c.is_autocommit-idle.ensures.value ∙ ap not c.requires.idle) in
    let file = c.args.file.now in
    both_if c.take_one_piece.result (c.take_one_piece.ensures.done clean) (c.take_one_piece.ensures.answer clean) (λ did isnew found.
    at_once_new old settled did.was_open config judged shown dates keeps coming file.bytes.now file.print c.requires.printed (λ t held. (found t held).0)
    file.name.now file.moment c.requires.in_time deliverable isnew file.span same (λ t held. (found t held).1))

pub returns-clause-crash : goal.returns-clause-crash
returns-clause-crash g c =
    let old = state g.S.Store c.args.conn.now in
    let settled = c.is_autocommit-idle.ensures.settled (c.is_autocommit-idle.ensures.value ∙ ap not c.requires.idle) in
    let file = c.args.file.now in
    survives_weaker old (state g.S.Store c.take_one_piece.new.conn) _ _ (λ clean trees may. (
      may.0.0,
      may.0.1,
      may.0.2,
      λ config judged shown dates keeps coming deliverable.
          at_once_turns old settled may.0.2 config judged shown dates keeps coming file.bytes.now file.print c.requires.printed may.1
          file.name.now file.moment c.requires.in_time deliverable may.0.0 may.0.3,
    )) c.take_one_piece.ensures.crash
