use Rattle.std.proofs.Common.{◌≡◌, ◌≤◌, All, length, arith, sym, ap, subst, ◌∙◌}
use Rattle.std.proofs.Math.Logic.{∥∥₁_elim}
use Rattle.std.proofs.Props.{props}
use Rattle.std.proofs.lemmas.Result.{on_err_weaker}
use Rattle.sqlite.specs.State.{HasCleanDisk, KeepsCommit}
use Rattle.sqlite.specs.Held.{state}
use Rattle.tables.proofs.TransactionLemmas.{keeps_then, on_err, on_ok}
use Rattle.book.specs.Book.{latest}
use Rattle.tables_meaning.specs.Founding.{Founds}
use Rattle.tables_meaning.proofs.AmendLemmas.{survives_both}
use Rattle.tables_meaning.proofs.FoundLemmas.{keeps_if_founded}
use Rattle.tables_read.specs.All.{tables_with}
use Rattle.old_book.specs.Copying.{AreRising}
use Rattle.migrate.specs.Migrating.{moved_rows}
use Rattle.migrate.proofs.AlikeSuites.{alike_length}
use Rattle.migrate.specs.Migrated.{migrated_rows}
use Rattle.migrate.proofs.WrittenLemmas.{founds_moved}
use Rattle.migrate.proofs.writing.migrate_inside.Goals as goal

pub write_rows-requires : goal.write_rows-requires
write_rows-requires g c = record { rising = subst (λ all. AreRising (tables_with all)) (sym c.rows.ensures.rows) c.rows.ensures.rising }

pub configure_inside-requires-clause-dated : goal.configure_inside-requires-clause-dated
configure_inside-requires-clause-dated g c =
    ap length c.dates.ensures.dates ∙ ∥∥₁_elim c.rows.ensures.kept (hlevel props) (λ h. h.dated) ∙ alike_length c.args.old.now.held.config c.args.config.now c.requires.alike

pub configure_inside-requires-clause-in_range : goal.configure_inside-requires-clause-in_range
configure_inside-requires-clause-in_range g c = subst (All (λ d. d ≤ latest)) (sym c.dates.ensures.dates) c.dates.ensures.in_range

pub returns-in_err-write_rows-clause-err : goal.returns-in_err-write_rows-clause-err
returns-in_err-write_rows-clause-err g c clean inside =
    let old = state g.S.Store c.args.tx.now.conn.now in
    let one = state g.S.Store c.found_inside.new.tx.conn.now in
    let two = state g.S.Store c.write_rows.new.tx.conn.now in
    let early : HasCleanDisk one = omega (arith, c.write_rows.ensures.survives.clean, clean) in
    let first = c.in_ok-found_inside.ensures.ok early inside in
    on_err _ (keeps_then old one two (keeps_if_founded old one _ first) (c.in_err-write_rows.ensures.err clean first.shown.mode))

pub returns-in_err-write_rows-clause-survives : goal.returns-in_err-write_rows-clause-survives
returns-in_err-write_rows-clause-survives g c =
    let old = state g.S.Store c.args.tx.now.conn.now in
    let one = state g.S.Store c.found_inside.new.tx.conn.now in
    let two = state g.S.Store c.write_rows.new.tx.conn.now in
    survives_both old one two c.found_inside.ensures.survives c.write_rows.ensures.survives

pub returns-clause-ok : goal.returns-clause-ok
returns-clause-ok g c clean inside =
    let old = state g.S.Store c.args.tx.now.conn.now in
    let one = state g.S.Store c.found_inside.new.tx.conn.now in
    let two = state g.S.Store c.write_rows.new.tx.conn.now in
    let three = state g.S.Store c.configure_inside.new.tx.conn.now in
    let config = c.args.config.now in
    let moment = c.args.moment in
    let late : HasCleanDisk two = omega (arith, c.configure_inside.ensures.survives.clean, clean) in
    let early : HasCleanDisk one = omega (arith, c.write_rows.ensures.survives.clean, late) in
    let first = c.in_ok-found_inside.ensures.ok early inside in
    let second = c.in_ok-write_rows.ensures.ok late first.shown.mode in
    let are : moved_rows config c.shelves.result.now c.dates.result.now moment (tables_with c.rows.result.now) ≡ migrated_rows c.args.old.now config moment =
    λ i. moved_rows config (c.shelves.ensures i) (c.dates.ensures.dates i) moment (tables_with (c.rows.ensures.rows i)) in
    on_ok c.configure_inside.result (c.configure_inside.ensures.ok clean second.mode) (λ third.
    subst (Founds old three) are
    (founds_moved old one two three config c.shelves.result.now c.dates.result.now moment (tables_with c.rows.result.now) first second third))

pub returns-clause-err : goal.returns-clause-err
returns-clause-err g c clean inside =
    let old = state g.S.Store c.args.tx.now.conn.now in
    let one = state g.S.Store c.found_inside.new.tx.conn.now in
    let two = state g.S.Store c.write_rows.new.tx.conn.now in
    let three = state g.S.Store c.configure_inside.new.tx.conn.now in
    let late : HasCleanDisk two = omega (arith, c.configure_inside.ensures.survives.clean, clean) in
    let early : HasCleanDisk one = omega (arith, c.write_rows.ensures.survives.clean, late) in
    let first = c.in_ok-found_inside.ensures.ok early inside in
    let second = c.in_ok-write_rows.ensures.ok late first.shown.mode in
    let kept : KeepsCommit old two = keeps_then old one two (keeps_if_founded old one _ first) second.kept in
    on_err_weaker c.configure_inside.result (λ last. keeps_then old two three kept last) (c.configure_inside.ensures.err clean second.mode)

pub returns-clause-survives : goal.returns-clause-survives
returns-clause-survives g c =
    let old = state g.S.Store c.args.tx.now.conn.now in
    let one = state g.S.Store c.found_inside.new.tx.conn.now in
    let two = state g.S.Store c.write_rows.new.tx.conn.now in
    let three = state g.S.Store c.configure_inside.new.tx.conn.now in
    survives_both old two three (survives_both old one two c.found_inside.ensures.survives c.write_rows.ensures.survives) c.configure_inside.ensures.survives
