use Rattle.std.proofs.Common.{arith}
use Rattle.std.proofs.lemmas.Result.{on_err_weaker}
use Rattle.sqlite.specs.State.{HasCleanDisk, KeepsCommit, Survives}
use Rattle.sqlite.specs.Held.{state}
use Rattle.tables.proofs.TransactionLemmas.{keeps_if_changed, keeps_if_failed, keeps_then, on_err, on_ok}
use Rattle.tables_meaning.proofs.AmendLemmas.{survives_both}
use Rattle.tables_meaning.proofs.ConfiguringLemmas.{configured_then}
use Rattle.tables_changes.proofs.configuring.configure_inside.Goals as goal

pub returns-in_err-update_configuration-clause-err : goal.returns-in_err-update_configuration-clause-err
returns-in_err-update_configuration-clause-err g c clean inside =
    on_err _ (keeps_if_failed (state g.S.Store c.args.tx.now.conn.now) (state g.S.Store c.update_configuration.new.tx.conn.now) (c.in_err-update_configuration.ensures.err clean inside))

pub returns-in_err-delete_texts-clause-err : goal.returns-in_err-delete_texts-clause-err
returns-in_err-delete_texts-clause-err g c clean inside =
    let old = state g.S.Store c.args.tx.now.conn.now in
    let one = state g.S.Store c.update_configuration.new.tx.conn.now in
    let two = state g.S.Store c.delete_texts.new.tx.conn.now in
    let early : HasCleanDisk one = omega (arith, c.delete_texts.ensures.survives.clean, clean) in
    let first = c.in_ok-update_configuration.ensures.ok early inside in
    on_err _ (keeps_then old one two (keeps_if_changed old one _ first) (keeps_if_failed one two (c.in_err-delete_texts.ensures.err clean first.shown.mode)))

pub returns-in_err-delete_texts-clause-survives : goal.returns-in_err-delete_texts-clause-survives
returns-in_err-delete_texts-clause-survives g c =
    let old = state g.S.Store c.args.tx.now.conn.now in
    let one = state g.S.Store c.update_configuration.new.tx.conn.now in
    let two = state g.S.Store c.delete_texts.new.tx.conn.now in
    survives_both old one two c.update_configuration.ensures.survives c.delete_texts.ensures.survives

pub returns-in_err-delete_dates-clause-err : goal.returns-in_err-delete_dates-clause-err
returns-in_err-delete_dates-clause-err g c clean inside =
    let old = state g.S.Store c.args.tx.now.conn.now in
    let one = state g.S.Store c.update_configuration.new.tx.conn.now in
    let two = state g.S.Store c.delete_texts.new.tx.conn.now in
    let three = state g.S.Store c.delete_dates.new.tx.conn.now in
    let clean2 : HasCleanDisk two = omega (arith, c.delete_dates.ensures.survives.clean, clean) in
    let clean1 : HasCleanDisk one = omega (arith, c.delete_texts.ensures.survives.clean, clean2) in
    let first = c.in_ok-update_configuration.ensures.ok clean1 inside in
    let second = c.in_ok-delete_texts.ensures.ok clean2 first.shown.mode in
    let kept : KeepsCommit old two = keeps_then old one two (keeps_if_changed old one _ first) (keeps_if_changed one two _ second) in
    on_err _ (keeps_then old two three kept (keeps_if_failed two three (c.in_err-delete_dates.ensures.err clean second.shown.mode)))

pub returns-in_err-delete_dates-clause-survives : goal.returns-in_err-delete_dates-clause-survives
returns-in_err-delete_dates-clause-survives g c =
    let old = state g.S.Store c.args.tx.now.conn.now in
    let one = state g.S.Store c.update_configuration.new.tx.conn.now in
    let two = state g.S.Store c.delete_texts.new.tx.conn.now in
    let three = state g.S.Store c.delete_dates.new.tx.conn.now in
    survives_both old two three (survives_both old one two c.update_configuration.ensures.survives c.delete_texts.ensures.survives) c.delete_dates.ensures.survives

pub returns-in_err-insert_texts-clause-err : goal.returns-in_err-insert_texts-clause-err
returns-in_err-insert_texts-clause-err g c clean inside =
    let old = state g.S.Store c.args.tx.now.conn.now in
    let one = state g.S.Store c.update_configuration.new.tx.conn.now in
    let two = state g.S.Store c.delete_texts.new.tx.conn.now in
    let three = state g.S.Store c.delete_dates.new.tx.conn.now in
    let four = state g.S.Store c.insert_texts.new.tx.conn.now in
    let clean3 : HasCleanDisk three = omega (arith, c.insert_texts.ensures.survives.clean, clean) in
    let clean2 : HasCleanDisk two = omega (arith, c.delete_dates.ensures.survives.clean, clean3) in
    let clean1 : HasCleanDisk one = omega (arith, c.delete_texts.ensures.survives.clean, clean2) in
    let first = c.in_ok-update_configuration.ensures.ok clean1 inside in
    let second = c.in_ok-delete_texts.ensures.ok clean2 first.shown.mode in
    let third = c.in_ok-delete_dates.ensures.ok clean3 second.shown.mode in
    let kept : KeepsCommit old two = keeps_then old one two (keeps_if_changed old one _ first) (keeps_if_changed one two _ second) in
    on_err _ (keeps_then old three four (keeps_then old two three kept (keeps_if_changed two three _ third)) (c.in_err-insert_texts.ensures.err clean third.shown.mode))

pub returns-in_err-insert_texts-clause-survives : goal.returns-in_err-insert_texts-clause-survives
returns-in_err-insert_texts-clause-survives g c =
    let old = state g.S.Store c.args.tx.now.conn.now in
    let one = state g.S.Store c.update_configuration.new.tx.conn.now in
    let two = state g.S.Store c.delete_texts.new.tx.conn.now in
    let three = state g.S.Store c.delete_dates.new.tx.conn.now in
    let four = state g.S.Store c.insert_texts.new.tx.conn.now in
    let begun : Survives old two (λ _. ⊥) = survives_both old one two c.update_configuration.ensures.survives c.delete_texts.ensures.survives in
    survives_both old three four (survives_both old two three begun c.delete_dates.ensures.survives) c.insert_texts.ensures.survives

pub returns-clause-ok : goal.returns-clause-ok
returns-clause-ok g c clean inside =
    let old = state g.S.Store c.args.tx.now.conn.now in
    let one = state g.S.Store c.update_configuration.new.tx.conn.now in
    let two = state g.S.Store c.delete_texts.new.tx.conn.now in
    let three = state g.S.Store c.delete_dates.new.tx.conn.now in
    let four = state g.S.Store c.insert_texts.new.tx.conn.now in
    let five = state g.S.Store c.insert_dates.new.tx.conn.now in
    let clean4 : HasCleanDisk four = omega (arith, c.insert_dates.ensures.survives.clean, clean) in
    let clean3 : HasCleanDisk three = omega (arith, c.insert_texts.ensures.survives.clean, clean4) in
    let clean2 : HasCleanDisk two = omega (arith, c.delete_dates.ensures.survives.clean, clean3) in
    let clean1 : HasCleanDisk one = omega (arith, c.delete_texts.ensures.survives.clean, clean2) in
    let first = rw c.text.ensures.text at (c.in_ok-update_configuration.ensures.ok clean1 inside) in
    let second = c.in_ok-delete_texts.ensures.ok clean2 first.shown.mode in
    let third = c.in_ok-delete_dates.ensures.ok clean3 second.shown.mode in
    let fourth = c.in_ok-insert_texts.ensures.ok clean4 third.shown.mode in
    on_ok c.insert_dates.result (c.insert_dates.ensures.ok clean fourth.mode) (λ fifth.
    configured_then old one two three four five c.args.config.now c.args.shelves.now c.args.dates.now first second third fourth fifth)

pub returns-clause-err : goal.returns-clause-err
returns-clause-err g c clean inside =
    let old = state g.S.Store c.args.tx.now.conn.now in
    let one = state g.S.Store c.update_configuration.new.tx.conn.now in
    let two = state g.S.Store c.delete_texts.new.tx.conn.now in
    let three = state g.S.Store c.delete_dates.new.tx.conn.now in
    let four = state g.S.Store c.insert_texts.new.tx.conn.now in
    let five = state g.S.Store c.insert_dates.new.tx.conn.now in
    let clean4 : HasCleanDisk four = omega (arith, c.insert_dates.ensures.survives.clean, clean) in
    let clean3 : HasCleanDisk three = omega (arith, c.insert_texts.ensures.survives.clean, clean4) in
    let clean2 : HasCleanDisk two = omega (arith, c.delete_dates.ensures.survives.clean, clean3) in
    let clean1 : HasCleanDisk one = omega (arith, c.delete_texts.ensures.survives.clean, clean2) in
    let first = c.in_ok-update_configuration.ensures.ok clean1 inside in
    let second = c.in_ok-delete_texts.ensures.ok clean2 first.shown.mode in
    let third = c.in_ok-delete_dates.ensures.ok clean3 second.shown.mode in
    let fourth = c.in_ok-insert_texts.ensures.ok clean4 third.shown.mode in
    let begun : KeepsCommit old two = keeps_then old one two (keeps_if_changed old one _ first) (keeps_if_changed one two _ second) in
    let kept : KeepsCommit old four = keeps_then old three four (keeps_then old two three begun (keeps_if_changed two three _ third)) fourth.kept in
    on_err_weaker c.insert_dates.result (λ last. keeps_then old four five kept last) (c.insert_dates.ensures.err clean fourth.mode)

pub returns-clause-survives : goal.returns-clause-survives
returns-clause-survives g c =
    let old = state g.S.Store c.args.tx.now.conn.now in
    let one = state g.S.Store c.update_configuration.new.tx.conn.now in
    let two = state g.S.Store c.delete_texts.new.tx.conn.now in
    let three = state g.S.Store c.delete_dates.new.tx.conn.now in
    let four = state g.S.Store c.insert_texts.new.tx.conn.now in
    let five = state g.S.Store c.insert_dates.new.tx.conn.now in
    let begun : Survives old two (λ _. ⊥) = survives_both old one two c.update_configuration.ensures.survives c.delete_texts.ensures.survives in
    let bare : Survives old three (λ _. ⊥) = survives_both old two three begun c.delete_dates.ensures.survives in
    survives_both old four five (survives_both old three four bare c.insert_texts.ensures.survives) c.insert_dates.ensures.survives
