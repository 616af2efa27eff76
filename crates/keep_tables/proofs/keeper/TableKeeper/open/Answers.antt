use Rattle.std.proofs.Common.{rules, ◌≡◌, IfOk, None, inr, sym, subst, ap, ◌∙◌, arith}
use Rattle.sqlite.specs.State.{HasCleanDisk, IsUnchanged}
use Rattle.sqlite.specs.Held.{state}
use Rattle.sqlite.proofs.StateLemmas.{survives_then}
use Rattle.tables.specs.Rows.{Stands, tables_in}
use Rattle.tables_meaning.specs.Finished.{finished}
use Rattle.tables_meaning.specs.Shown.{shown_in}
use Rattle.tables_meaning.specs.Transactions.{MayCommit}
use Rattle.keep_tables.specs.Finishing.{unfinished_ids}
use Rattle.keep_tables.specs.Opened.{HasPrintsFound, IsArchiveOf, IsNoArchive}
use Rattle.tables_audit.proofs.WholeLemmas.{if_ok}
use Rattle.tables_audit.proofs.WholeLemmas.{err_both, if_err, ok_both}
use Rattle.keep_tables.proofs.OpenLemmas.{book_from, finished_from, found_after, may_from, undone_after, unfinished_from}
use Rattle.keep_tables.proofs.keeper.TableKeeper.open.Goals as goal

pub keeper_of-requires-clause-found : goal.keeper_of-requires-clause-found
keeper_of-requires-clause-found g c clean =
    let old = state g.S.Store c.args.connection in
    let mid = state g.S.Store c.find_archive.new.conn in
    let f = c.in-Ok-Some.found in
    let found : IsUnchanged old mid × IsArchiveOf old.now f.held.config f.held.judged.items f.held.dates.items × (f.unfinished.items ≡ unfinished_ids (tables_in old.now).bodies) = search rules in
    let rests : old.now ≡ old.committed = search rules in
    found_after old mid found.0 f.held.config f.held.judged.items f.held.dates.items f.unfinished.items rests found.1 found.2

pub keeper_of-requires-clause-shown : goal.keeper_of-requires-clause-shown
keeper_of-requires-clause-shown g c clean =
    let old = state g.S.Store c.args.connection in
    let mid = state g.S.Store c.find_archive.new.conn in
    let f = c.in-Ok-Some.found in
    let found : IsUnchanged old mid × IsArchiveOf old.now f.held.config f.held.judged.items f.held.dates.items × (f.unfinished.items ≡ unfinished_ids (tables_in old.now).bodies) = search rules in
    let shown : f.held.shelves ≡ shown_in f.held.config.suites (tables_in old.now) = search rules in
    shown ∙ ap (λ db. shown_in f.held.config.suites (tables_in db)) (sym found.0.0.now_is)

pub keeper_of-requires-clause-printed : goal.keeper_of-requires-clause-printed
keeper_of-requires-clause-printed g c clean =
    let old = state g.S.Store c.args.connection in
    let mid = state g.S.Store c.find_archive.new.conn in
    let f = c.in-Ok-Some.found in
    let found : IsUnchanged old mid × IsArchiveOf old.now f.held.config f.held.judged.items f.held.dates.items × (f.unfinished.items ≡ unfinished_ids (tables_in old.now).bodies) = search rules in
    let printed : HasPrintsFound (tables_in old.now) f = search rules in
    subst (λ db. HasPrintsFound (tables_in db) f) (sym found.0.0.now_is) printed

pub returns-in-Ok-Some-clause-opened : goal.returns-in-Ok-Some-clause-opened
returns-in-Ok-Some-clause-opened g c =
    let old = state g.S.Store c.args.connection in
    let mid = state g.S.Store c.find_archive.new.conn in
    let f = c.in-Ok-Some.found in
    ok_both _ _ _ c.keeper_of.result (λ k done crash clean.
    let early : HasCleanDisk mid = omega (arith, crash.clean, clean) in
    let found : IsUnchanged old mid × IsArchiveOf old.now f.held.config f.held.judged.items f.held.dates.items × (f.unfinished.items ≡ unfinished_ids (tables_in old.now).bodies) = search rules in
    (finished_from old mid found.0 (state g.S.Store k.conn) (done clean).0, book_from old mid found.0 (done clean).1)) c.keeper_of.ensures.opened c.keeper_of.ensures.crash

pub returns-in-Ok-Some-clause-told : goal.returns-in-Ok-Some-clause-told
returns-in-Ok-Some-clause-told g c =
    let old = state g.S.Store c.args.connection in
    let mid = state g.S.Store c.find_archive.new.conn in
    let f = c.in-Ok-Some.found in
    err_both _ _ _ c.keeper_of.result (λ e told crash clean.
    let early : HasCleanDisk mid = omega (arith, crash.clean, clean) in
    let found : IsUnchanged old mid × IsArchiveOf old.now f.held.config f.held.judged.items f.held.dates.items × (f.unfinished.items ≡ unfinished_ids (tables_in old.now).bodies) = search rules in
    inr (inr (inr (unfinished_from old mid found.0 (told clean))))) c.keeper_of.ensures.told c.keeper_of.ensures.crash_undone

pub returns-in-Ok-Some-clause-undone : goal.returns-in-Ok-Some-clause-undone
returns-in-Ok-Some-clause-undone g c =
    let old = state g.S.Store c.args.connection in
    let mid = state g.S.Store c.find_archive.new.conn in
    let f = c.in-Ok-Some.found in
    err_both _ _ _ c.keeper_of.result (λ e undone crash clean.
    let early : HasCleanDisk mid = omega (arith, crash.clean, clean) in
    let found : IsUnchanged old mid × IsArchiveOf old.now f.held.config f.held.judged.items f.held.dates.items × (f.unfinished.items ≡ unfinished_ids (tables_in old.now).bodies) = search rules in
    undone_after old mid found.0 (state g.S.Store e.0) (undone clean)) c.keeper_of.ensures.undone c.keeper_of.ensures.crash_undone

pub returns-in-Ok-Some-clause-crash : goal.returns-in-Ok-Some-clause-crash
returns-in-Ok-Some-clause-crash g c =
    let old = state g.S.Store c.args.connection in
    let mid = state g.S.Store c.find_archive.new.conn in
    let f = c.in-Ok-Some.found in
    if_ok _ _ c.keeper_of.result (λ k crash.
    survives_then old mid (state g.S.Store k.conn) _ _ (MayCommit old finished) (λ _ trees none. absurd none) (λ clean trees may.
    let early : HasCleanDisk mid = omega (arith, crash.clean, clean) in
    let found : IsUnchanged old mid × IsArchiveOf old.now f.held.config f.held.judged.items f.held.dates.items × (f.unfinished.items ≡ unfinished_ids (tables_in old.now).bodies) = search rules in
    may_from old mid found.0 trees may) c.find_archive.ensures.survives crash) c.keeper_of.ensures.crash

pub returns-in-Ok-Some-clause-crash_undone : goal.returns-in-Ok-Some-clause-crash_undone
returns-in-Ok-Some-clause-crash_undone g c =
    let old = state g.S.Store c.args.connection in
    let mid = state g.S.Store c.find_archive.new.conn in
    let f = c.in-Ok-Some.found in
    if_err _ _ c.keeper_of.result (λ e crash.
    survives_then old mid (state g.S.Store e.0) _ _ (MayCommit old finished) (λ _ trees none. absurd none) (λ clean trees may.
    let early : HasCleanDisk mid = omega (arith, crash.clean, clean) in
    let found : IsUnchanged old mid × IsArchiveOf old.now f.held.config f.held.judged.items f.held.dates.items × (f.unfinished.items ≡ unfinished_ids (tables_in old.now).bodies) = search rules in
    may_from old mid found.0 trees may) c.find_archive.ensures.survives crash) c.keeper_of.ensures.crash_undone

pub returns-in-Ok-None-clause-refused : goal.returns-in-Ok-None-clause-refused
returns-in-Ok-None-clause-refused g c same clean =
    let old = state g.S.Store c.args.connection in
    let mid = state g.S.Store c.find_archive.new.conn in
    let none : c.in-Ok-None.field-0 ≡ None = search rules in
    let found = subst (λ r. IfOk r (λ o. o ≡ None → Stands old mid × IsNoArchive old.now)) c.in-Ok-None.is (c.find_archive.ensures.none clean) none in
    inr found.1
