use Rattle.std.proofs.Common.{rules, ◌≡◌, ◌≢◌, [], sym, subst, ◌∙◌, arith}
use Rattle.std.proofs.lemmas.Bool.{eqb-true}
use Rattle.std.proofs.lemmas.List.{nil_from_length}
use Rattle.sqlite.specs.State.{HasCleanDisk, Survives}
use Rattle.sqlite.specs.Held.{state}
use Rattle.sqlite.proofs.StateLemmas.{survives_weaker}
use Rattle.tables_meaning.specs.Finished.{finished, without_all}
use Rattle.tables_meaning.specs.Transactions.{IsDone, MayCommit}
use Rattle.keep_tables.specs.Opened.{IsFinished}
use Rattle.keep_tables.proofs.KeeperLemmas.{book_over}
use Rattle.keep_tables.proofs.OpenLemmas.{finished_book, finished_done, finished_same, keeps_finished, keeps_same, known_finished, known_same, may_finish, same_book_finished, shown_same, shown_still, whole_finished, whole_same}
use Rattle.keep_tables.proofs.opening.keeper_of.Goals as goal

pub keeper_over-requires-clause-kept : goal.keeper_over-requires-clause-kept
keeper_over-requires-clause-kept g c clean up =
    let found = c.args.found in
    let empty = eqb-true _ 0 (sym c.is_empty.ensures ∙ c.if-is_empty.true) in
    let none : found.unfinished.items ≡ [] = nil_from_length found.unfinished.items (omega (arith, empty, found.unfinished.ok.0)) in
    keeps_same (state g.S.Store c.args.connection) found.held.config found.held.judged.items found.held.dates.items found.unfinished.items (c.requires.found clean) none

pub keeper_over-requires-clause-whole : goal.keeper_over-requires-clause-whole
keeper_over-requires-clause-whole g c clean up =
    let found = c.args.found in
    let empty = eqb-true _ 0 (sym c.is_empty.ensures ∙ c.if-is_empty.true) in
    let none : found.unfinished.items ≡ [] = nil_from_length found.unfinished.items (omega (arith, empty, found.unfinished.ok.0)) in
    whole_same (state g.S.Store c.args.connection) found.held.config found.held.judged.items found.held.dates.items found.unfinished.items (c.requires.found clean) none

pub keeper_over-requires-clause-shown : goal.keeper_over-requires-clause-shown
keeper_over-requires-clause-shown g c clean up =
    let found = c.args.found in
    c.requires.shown clean ∙ sym (shown_same (state g.S.Store c.args.connection) found.held.config found.held.judged.items found.held.dates.items found.unfinished.items (c.requires.found clean))

pub keeper_over-requires-clause-known : goal.keeper_over-requires-clause-known
keeper_over-requires-clause-known g c clean up =
    let found = c.args.found in
    let empty = eqb-true _ 0 (sym c.is_empty.ensures ∙ c.if-is_empty.true) in
    let none : found.unfinished.items ≡ [] = nil_from_length found.unfinished.items (omega (arith, empty, found.unfinished.ok.0)) in
    known_same (state g.S.Store c.args.connection) found.held.config found.held.judged.items found.held.dates.items found.unfinished.items (c.requires.found clean) none
    found.held.prints.items (c.requires.printed clean)

pub returns-then-is_empty-clause-opened : goal.returns-then-is_empty-clause-opened
returns-then-is_empty-clause-opened g c clean =
    let s = state g.S.Store c.args.connection in
    let found = c.args.found in
    let empty = eqb-true _ 0 (sym c.is_empty.ensures ∙ c.if-is_empty.true) in
    let none : found.unfinished.items ≡ [] = nil_from_length found.unfinished.items (omega (arith, empty, found.unfinished.ok.0)) in
    let early : HasCleanDisk s = subst (λ k. HasCleanDisk (state g.S.Store k)) c.keeper_over.ensures.conn clean in
    let over = c.keeper_over.ensures in (
      subst (λ k. IsFinished s (state g.S.Store k)) (sym over.conn)
          (finished_same s found.held.config found.held.judged.items found.held.dates.items found.unfinished.items (c.requires.found early) none),
      book_over g.S.Store c.keeper_over.result c.args.connection found.held.config found.held.judged found.held.dates over.conn over.held.0 over.held.1 over.held.2 s.committed
          (same_book_finished s found.held.config found.held.judged.items found.held.dates.items found.unfinished.items (c.requires.found early) none),
    )

pub keeper_over-requires-in-Ok-clause-kept : goal.keeper_over-requires-in-Ok-clause-kept
keeper_over-requires-in-Ok-clause-kept g c clean up =
    let s = state g.S.Store c.args.connection in
    let new = state g.S.Store c.remove_all.new.conn in
    let found = c.args.found in
    let early : HasCleanDisk s = omega (arith, c.remove_all.ensures.crash.clean, clean) in
    let done : IsDone s new (without_all found.unfinished.items) = subst (λ ids. IsDone s new (without_all ids)) c.deref.ensures.value (c.in-Ok.ensures.done clean) in
    keeps_finished s found.held.config found.held.judged.items found.held.dates.items found.unfinished.items (c.requires.found early) new.committed done.held

pub keeper_over-requires-in-Ok-clause-whole : goal.keeper_over-requires-in-Ok-clause-whole
keeper_over-requires-in-Ok-clause-whole g c clean up =
    let s = state g.S.Store c.args.connection in
    let new = state g.S.Store c.remove_all.new.conn in
    let found = c.args.found in
    let early : HasCleanDisk s = omega (arith, c.remove_all.ensures.crash.clean, clean) in
    let done : IsDone s new (without_all found.unfinished.items) = subst (λ ids. IsDone s new (without_all ids)) c.deref.ensures.value (c.in-Ok.ensures.done clean) in
    whole_finished s found.held.config found.held.judged.items found.held.dates.items found.unfinished.items (c.requires.found early) new.committed done.held

pub keeper_over-requires-in-Ok-clause-shown : goal.keeper_over-requires-in-Ok-clause-shown
keeper_over-requires-in-Ok-clause-shown g c clean up =
    let s = state g.S.Store c.args.connection in
    let new = state g.S.Store c.remove_all.new.conn in
    let found = c.args.found in
    let early : HasCleanDisk s = omega (arith, c.remove_all.ensures.crash.clean, clean) in
    let done : IsDone s new (without_all found.unfinished.items) = subst (λ ids. IsDone s new (without_all ids)) c.deref.ensures.value (c.in-Ok.ensures.done clean) in
    c.requires.shown early ∙ sym (shown_still s found.held.config found.held.judged.items found.held.dates.items found.unfinished.items (c.requires.found early) new.committed done.held)

pub keeper_over-requires-in-Ok-clause-known : goal.keeper_over-requires-in-Ok-clause-known
keeper_over-requires-in-Ok-clause-known g c clean up =
    let s = state g.S.Store c.args.connection in
    let new = state g.S.Store c.remove_all.new.conn in
    let found = c.args.found in
    let early : HasCleanDisk s = omega (arith, c.remove_all.ensures.crash.clean, clean) in
    let done : IsDone s new (without_all found.unfinished.items) = subst (λ ids. IsDone s new (without_all ids)) c.deref.ensures.value (c.in-Ok.ensures.done clean) in
    known_finished s found.held.config found.held.judged.items found.held.dates.items found.unfinished.items (c.requires.found early) found.held.prints.items (c.requires.printed early)
    new.committed done.held

pub returns-in-Ok-clause-opened : goal.returns-in-Ok-clause-opened
returns-in-Ok-clause-opened g c clean =
    let s = state g.S.Store c.args.connection in
    let new = state g.S.Store c.remove_all.new.conn in
    let found = c.args.found in
    let late : HasCleanDisk new = subst (λ k. HasCleanDisk (state g.S.Store k)) c.keeper_over-in-Ok.ensures.conn clean in
    let early : HasCleanDisk s = omega (arith, c.remove_all.ensures.crash.clean, late) in
    let done : IsDone s new (without_all found.unfinished.items) = subst (λ ids. IsDone s new (without_all ids)) c.deref.ensures.value (c.in-Ok.ensures.done late) in
    let some : found.unfinished.items ≢ [] = search rules in
    let over = c.keeper_over-in-Ok.ensures in (
      subst (λ k. IsFinished s (state g.S.Store k)) (sym over.conn)
          (finished_done s found.held.config found.held.judged.items found.held.dates.items found.unfinished.items (c.requires.found early) new some done),
      book_over g.S.Store c.keeper_over-in-Ok.result c.remove_all.new.conn found.held.config found.held.judged found.held.dates over.conn over.held.0 over.held.1 over.held.2 s.committed
          (finished_book s found.held.config found.held.judged.items found.held.dates.items found.unfinished.items (c.requires.found early) new.committed done.held),
    )

pub returns-in-Ok-clause-crash : goal.returns-in-Ok-clause-crash
returns-in-Ok-clause-crash g c =
    let s = state g.S.Store c.args.connection in
    let new = state g.S.Store c.remove_all.new.conn in
    let found = c.args.found in
    let whole : Survives s new (MayCommit s (without_all found.unfinished.items)) = subst (λ ids. Survives s new (MayCommit s (without_all ids))) c.deref.ensures.value c.remove_all.ensures.crash in
    subst (λ k. Survives s (state g.S.Store k) (MayCommit s finished)) (sym c.keeper_over-in-Ok.ensures.conn)
    (survives_weaker s new _ _ (λ clean trees may.
    let early : HasCleanDisk s = omega (arith, whole.clean, clean) in
    may_finish s found.held.config found.held.judged.items found.held.dates.items found.unfinished.items (c.requires.found early) trees may) whole)

pub returns-in-Err-clause-crash_undone : goal.returns-in-Err-clause-crash_undone
returns-in-Err-clause-crash_undone g c =
    let s = state g.S.Store c.args.connection in
    let new = state g.S.Store c.remove_all.new.conn in
    let found = c.args.found in
    let whole : Survives s new (MayCommit s (without_all found.unfinished.items)) = subst (λ ids. Survives s new (MayCommit s (without_all ids))) c.deref.ensures.value c.remove_all.ensures.crash in
    survives_weaker s new _ _ (λ clean trees may.
    let early : HasCleanDisk s = omega (arith, whole.clean, clean) in
    may_finish s found.held.config found.held.judged.items found.held.dates.items found.unfinished.items (c.requires.found early) trees may) whole
