use Rattle.std.proofs.Common.{not, ap, subst, sym, ◌∙◌}
use Rattle.sqlite.specs.Held.{state}
use Rattle.sqlite.proofs.StateLemmas.{survives_weaker}
use Rattle.tables.proofs.TransactionLemmas.{on_ok}
use Rattle.tables.specs.Rows.{Holds}
use Rattle.keep_tables.proofs.ConfiguredCalls.{comes_still, turns_by}
use Rattle.keep_tables.proofs.configurations.take_configuration.Goals as goal

pub returns-clause-open : goal.returns-clause-open
returns-clause-open g c clean = on_ok c.configure.result (c.configure.ensures.done clean) (λ did. (did.was_open, did.is_open))

pub returns-clause-done : goal.returns-clause-done
returns-clause-done g c clean before judged shown was keeps is stay =
    let old = state g.S.Store c.args.conn.now in
    let new = state g.S.Store c.configure.new.conn in
    let settled = c.is_autocommit-idle.ensures.settled (c.is_autocommit-idle.ensures.value ∙ ap not c.requires.idle) in
    on_ok c.configure.result (c.configure.ensures.done clean) (λ did.
    turns_by old.committed new.committed before c.args.config.now judged shown c.args.shelves.now was c.args.dates.now keeps
    (λ t has. did.held t (subst (λ db. Holds db t) (sym (settled did.was_open)) has)) is c.text.ensures.read stay c.requires.dated c.requires.in_range)

pub returns-clause-beside : goal.returns-clause-beside
returns-clause-beside g c clean before judged shown was keeps =
    let old = state g.S.Store c.args.conn.now in
    let new = state g.S.Store c.configure.new.conn in
    let settled = c.is_autocommit-idle.ensures.settled (c.is_autocommit-idle.ensures.value ∙ ap not c.requires.idle) in
    on_ok c.configure.result (c.configure.ensures.done clean) (λ did.
    comes_still old.committed new.committed before c.args.config.now judged shown c.args.shelves.now was c.args.dates.now keeps
    (λ t has. did.held t (subst (λ db. Holds db t) (sym (settled did.was_open)) has)))

pub returns-clause-crash : goal.returns-clause-crash
returns-clause-crash g c =
    let old = state g.S.Store c.args.conn.now in
    let settled = c.is_autocommit-idle.ensures.settled (c.is_autocommit-idle.ensures.value ∙ ap not c.requires.idle) in
    survives_weaker old (state g.S.Store c.configure.new.conn) _ _ (λ clean trees may. (
      may.0,
      may.1,
      may.2,
      λ before judged shown was keeps is stay.
          turns_by old.committed may.0 before c.args.config.now judged shown c.args.shelves.now was c.args.dates.now keeps
          (λ t has. may.3 t (subst (λ db. Holds db t) (sym (settled may.2)) has)) is c.text.ensures.read stay c.requires.dated c.requires.in_range,
    )) c.configure.ensures.crash
