use Rattle.std.proofs.Common.{not, ap, subst, sym, ◌∙◌}
use Rattle.sqlite.specs.Held.{state}
use Rattle.sqlite.proofs.StateLemmas.{survives_weaker}
use Rattle.tables.proofs.TransactionLemmas.{on_ok}
use Rattle.tables.specs.Rows.{Holds, tables_in}
use Rattle.tables_cleaning.proofs.CleanCalls.{clean_count, clean_turns}
use Rattle.tables_meaning.proofs.TakingLemmas.{both_if}
use Rattle.keep_tables.proofs.cleanings.clean_up.Goals as goal

pub returns-clause-done : goal.returns-clause-done
returns-clause-done g c clean config judged shown dates keeps same =
    let old = state g.S.Store c.args.conn.now in
    let new = state g.S.Store c.clean.new.conn in
    let settled = c.is_autocommit-idle.ensures.settled (c.is_autocommit-idle.ensures.value ∙ ap not c.requires.idle) in
    on_ok c.clean.result (c.clean.ensures.done clean) (λ did.
    clean_turns old.committed new.committed c.args.seconds c.args.moment (λ t was. did.held t (subst (λ db. Holds db t) (sym (settled did.was_open)) was)) config judged shown dates keeps same)

pub returns-clause-count : goal.returns-clause-count
returns-clause-count g c clean config judged shown dates keeps same =
    let old = state g.S.Store c.args.conn.now in
    let settled = c.is_autocommit-idle.ensures.settled (c.is_autocommit-idle.ensures.value ∙ ap not c.requires.idle) in
    both_if c.clean.result (c.clean.ensures.done clean) (c.clean.ensures.count clean) (λ did count is.
    is (tables_in old.committed) (subst (λ db. Holds db (tables_in old.committed)) (sym (settled did.was_open)) keeps.held)
    ∙ clean_count old.committed c.args.seconds c.args.moment config judged shown dates keeps same)

pub returns-clause-crash : goal.returns-clause-crash
returns-clause-crash g c =
    let old = state g.S.Store c.args.conn.now in
    let settled = c.is_autocommit-idle.ensures.settled (c.is_autocommit-idle.ensures.value ∙ ap not c.requires.idle) in
    survives_weaker old (state g.S.Store c.clean.new.conn) _ _ (λ clean trees may. (
      may.0,
      may.1,
      may.2,
      λ config judged shown dates keeps same.
          (clean_turns old.committed may.0 c.args.seconds c.args.moment (λ t was. may.3 t (subst (λ db. Holds db t) (sym (settled may.2)) was)) config judged shown dates keeps same).0,
    )) c.clean.ensures.crash
