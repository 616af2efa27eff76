use Rattle.std.proofs.Common.{arith}
use Rattle.std.proofs.lemmas.Result.{on_err_weaker}
use Rattle.sqlite.specs.State.{HasCleanDisk, KeepsCommit}
use Rattle.sqlite.specs.Held.{state}
use Rattle.sqlite.proofs.StateLemmas.{survives_then}
use Rattle.tables.specs.Rows.{no_rows}
use Rattle.tables.proofs.TransactionLemmas.{keeps_then, on_err, on_ok}
use Rattle.tables_meaning.specs.Founding.{founded, with_first_rows}
use Rattle.tables_meaning.proofs.FoundLemmas.{first_of_none, founds_then}
use Rattle.tables_changes.proofs.founding.found_inside.Goals as goal

pub returns-clause-ok : goal.returns-clause-ok
returns-clause-ok g c clean inside =
    let old = state g.S.Store c.args.tx.now.conn.now in
    let one = state g.S.Store c.create_tables.new.tx.conn.now in
    let two = state g.S.Store c.create_indexes.new.tx.conn.now in
    let three = state g.S.Store c.insert_first_rows.new.tx.conn.now in
    let late : HasCleanDisk two = omega (arith, c.insert_first_rows.ensures.survives.clean, clean) in
    let early : HasCleanDisk one = omega (arith, c.create_indexes.ensures.survives.clean, late) in
    let first = c.in_ok-create_tables.ensures.ok early inside in
    let second = c.in_ok-create_indexes.ensures.ok late first.mode in
    on_ok c.insert_first_rows.result (c.insert_first_rows.ensures.ok clean second.mode) (λ third.
    founds_then old two three (with_first_rows c.args.config.now c.args.moment) (founded c.args.config.now c.args.moment)
    (first_of_none c.args.config.now c.args.moment) (λ none. second.held (first.made none) no_rows (first.held none)) (keeps_then old one two first.kept second.kept) third)

pub returns-in_err-create_indexes-clause-err : goal.returns-in_err-create_indexes-clause-err
returns-in_err-create_indexes-clause-err g c clean inside =
    let old = state g.S.Store c.args.tx.now.conn.now in
    let one = state g.S.Store c.create_tables.new.tx.conn.now in
    let two = state g.S.Store c.create_indexes.new.tx.conn.now in
    let early : HasCleanDisk one = omega (arith, c.create_indexes.ensures.survives.clean, clean) in
    let first = c.in_ok-create_tables.ensures.ok early inside in
    on_err c.from_residual-in_err-create_indexes.result (keeps_then old one two first.kept (c.in_err-create_indexes.ensures.err clean first.mode))

pub returns-clause-err : goal.returns-clause-err
returns-clause-err g c clean inside =
    let old = state g.S.Store c.args.tx.now.conn.now in
    let one = state g.S.Store c.create_tables.new.tx.conn.now in
    let two = state g.S.Store c.create_indexes.new.tx.conn.now in
    let three = state g.S.Store c.insert_first_rows.new.tx.conn.now in
    let late : HasCleanDisk two = omega (arith, c.insert_first_rows.ensures.survives.clean, clean) in
    let early : HasCleanDisk one = omega (arith, c.create_indexes.ensures.survives.clean, late) in
    let first = c.in_ok-create_tables.ensures.ok early inside in
    let second = c.in_ok-create_indexes.ensures.ok late first.mode in
    let kept : KeepsCommit old two = keeps_then old one two first.kept second.kept in
    on_err_weaker c.insert_first_rows.result (λ last. keeps_then old two three kept last) (c.insert_first_rows.ensures.err clean second.mode)

pub returns-clause-survives : goal.returns-clause-survives
returns-clause-survives g c =
    let old = state g.S.Store c.args.tx.now.conn.now in
    let one = state g.S.Store c.create_tables.new.tx.conn.now in
    let two = state g.S.Store c.create_indexes.new.tx.conn.now in
    let three = state g.S.Store c.insert_first_rows.new.tx.conn.now in
    survives_then old two three (λ _. ⊥) (λ _. ⊥) (λ _. ⊥) (λ _ db none. none) (λ _ db none. none)
    (survives_then old one two (λ _. ⊥) (λ _. ⊥) (λ _. ⊥) (λ _ db none. none) (λ _ db none. none) c.create_tables.ensures.survives c.create_indexes.ensures.survives)
    c.insert_first_rows.ensures.survives
