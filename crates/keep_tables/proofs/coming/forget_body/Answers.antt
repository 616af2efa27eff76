use Rattle.std.proofs.Common.{Some, not, refl, ap, ◌∙◌}
use Rattle.sqlite.specs.Held.{state}
use Rattle.sqlite.proofs.StateLemmas.{survives_weaker}
use Rattle.tables.proofs.TransactionLemmas.{on_ok}
use Rattle.tables_meaning.proofs.TakingLemmas.{removed_all, removed_turns}
use Rattle.keep_tables.proofs.coming.forget_body.Goals as goal

pub returns-clause-done : goal.returns-clause-done
returns-clause-done g c clean config judged shown dates count bytes keeps comes =
    let old = state g.S.Store c.args.conn.now in
    let settled = c.is_autocommit-idle.ensures.settled (c.is_autocommit-idle.ensures.value ∙ ap not c.requires.idle) in
    let new = (state g.S.Store c.remove_all.new.conn).committed in
    on_ok c.remove_all.result (c.remove_all.ensures.done clean) (λ did. (
      removed_turns old settled did.was_open config judged shown dates keeps (Some c.args.id) count bytes comes c.args.id refl new did.held,
      removed_all old settled did.was_open config judged shown dates keeps (Some c.args.id) count bytes comes c.args.id refl new did.held,
    ))

pub returns-clause-crash : goal.returns-clause-crash
returns-clause-crash g c =
    let old = state g.S.Store c.args.conn.now in
    let settled = c.is_autocommit-idle.ensures.settled (c.is_autocommit-idle.ensures.value ∙ ap not c.requires.idle) in
    survives_weaker old (state g.S.Store c.remove_all.new.conn) _ _ (λ clean trees may. (
      may.0,
      may.1,
      may.2,
      λ config judged shown dates count bytes keeps comes. removed_turns old settled may.2 config judged shown dates keeps (Some c.args.id) count bytes comes c.args.id refl may.0 may.3,
    )) c.remove_all.ensures.crash
