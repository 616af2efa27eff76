use Rattle.std.proofs.Common.{◌≡◌, List, length, replicate, ap, ◌∙◌, arith}
use Rattle.std.proofs.lemmas.Result.{on_err_weaker}
use Rattle.sqlite.specs.State.{HasCleanDisk}
use Rattle.sqlite.specs.Held.{state}
use Rattle.sqlite.proofs.StateLemmas.{survives_then}
use Rattle.tables.proofs.TransactionLemmas.{keeps_if_changed, keeps_if_failed, keeps_then, on_err, on_ok}
use Rattle.rules.specs.declared.suite.Suite.{Suite}
use Rattle.tables_meaning.specs.Founding.{first_dates}
use Rattle.tables_meaning.proofs.FoundLemmas.{first_rows_then}
use Rattle.tables_changes.proofs.founding.insert_first_rows.Goals as goal

pub returns-in_err-insert_meta-clause-err : goal.returns-in_err-insert_meta-clause-err
returns-in_err-insert_meta-clause-err g c clean inside =
    on_err _ (keeps_if_failed (state g.S.Store c.args.tx.now.conn.now) (state g.S.Store c.insert_meta.new.tx.conn.now) (c.in_err-insert_meta.ensures.err clean inside))

pub returns-in_err-insert_texts-clause-err : goal.returns-in_err-insert_texts-clause-err
returns-in_err-insert_texts-clause-err g c clean inside =
    let old = state g.S.Store c.args.tx.now.conn.now in
    let one = state g.S.Store c.insert_meta.new.tx.conn.now in
    let two = state g.S.Store c.insert_texts.new.tx.conn.now in
    let early : HasCleanDisk one = omega (arith, c.insert_texts.ensures.survives.clean, clean) in
    let first = c.in_ok-insert_meta.ensures.ok early inside in
    on_err _ (keeps_then old one two (keeps_if_changed old one _ first) (c.in_err-insert_texts.ensures.err clean first.shown.mode))

pub returns-in_err-insert_texts-clause-survives : goal.returns-in_err-insert_texts-clause-survives
returns-in_err-insert_texts-clause-survives g c =
    let old = state g.S.Store c.args.tx.now.conn.now in
    let one = state g.S.Store c.insert_meta.new.tx.conn.now in
    let two = state g.S.Store c.insert_texts.new.tx.conn.now in
    survives_then old one two (λ _. ⊥) (λ _. ⊥) (λ _. ⊥) (λ _ db none. none) (λ _ db none. none) c.insert_meta.ensures.survives c.insert_texts.ensures.survives

pub returns-clause-ok : goal.returns-clause-ok
returns-clause-ok g c clean inside =
    let old = state g.S.Store c.args.tx.now.conn.now in
    let one = state g.S.Store c.insert_meta.new.tx.conn.now in
    let two = state g.S.Store c.insert_texts.new.tx.conn.now in
    let three = state g.S.Store c.insert_dates.new.tx.conn.now in
    let later : HasCleanDisk two = omega (arith, c.insert_dates.ensures.survives.clean, clean) in
    let early : HasCleanDisk one = omega (arith, c.insert_texts.ensures.survives.clean, later) in
    let first = rw c.text.ensures.text at (c.in_ok-insert_meta.ensures.ok early inside) in
    let are : c.as_slice-dates.result.now ≡ first_dates c.args.config.now c.args.moment =
    c.as_slice-dates.ensures.value ∙ c.in_ok-moments.ensures.items_if_clones_equal (λ y e. e) ∙ ap (λ (suites : List Suite). replicate (length suites) c.args.moment) c.suites.ensures in
    let second = rw (c.new-shelves.ensures, are) at (c.in_ok-insert_texts.ensures.ok later first.shown.mode) in
    let last = rw are at (c.insert_dates.ensures.ok clean second.mode) in
    on_ok c.insert_dates.result last (λ third.
    first_rows_then old one two three c.args.config.now c.args.moment first second third)

pub returns-clause-err : goal.returns-clause-err
returns-clause-err g c clean inside =
    let old = state g.S.Store c.args.tx.now.conn.now in
    let one = state g.S.Store c.insert_meta.new.tx.conn.now in
    let two = state g.S.Store c.insert_texts.new.tx.conn.now in
    let three = state g.S.Store c.insert_dates.new.tx.conn.now in
    let later : HasCleanDisk two = omega (arith, c.insert_dates.ensures.survives.clean, clean) in
    let early : HasCleanDisk one = omega (arith, c.insert_texts.ensures.survives.clean, later) in
    let first = c.in_ok-insert_meta.ensures.ok early inside in
    let second = c.in_ok-insert_texts.ensures.ok later first.shown.mode in
    on_err_weaker c.insert_dates.result (λ kept. keeps_then old two three (keeps_then old one two (keeps_if_changed old one _ first) second.kept) kept)
    (c.insert_dates.ensures.err clean second.mode)

pub returns-clause-survives : goal.returns-clause-survives
returns-clause-survives g c =
    let old = state g.S.Store c.args.tx.now.conn.now in
    let one = state g.S.Store c.insert_meta.new.tx.conn.now in
    let two = state g.S.Store c.insert_texts.new.tx.conn.now in
    let three = state g.S.Store c.insert_dates.new.tx.conn.now in
    survives_then old two three (λ _. ⊥) (λ _. ⊥) (λ _. ⊥) (λ _ db none. none) (λ _ db none. none)
    (survives_then old one two (λ _. ⊥) (λ _. ⊥) (λ _. ⊥) (λ _ db none. none) (λ _ db none. none) c.insert_meta.ensures.survives c.insert_texts.ensures.survives)
    c.insert_dates.ensures.survives
