use Rattle.std.proofs.Common.{arith, subst}
use Rattle.std.proofs.lemmas.Option.{IfSome_then}
use Rattle.std.proofs.lemmas.Result.{IfOk-weaker, on_err_weaker, on_ok_weaker}
use Rattle.sqlite.specs.Held.{state}
use Rattle.sqlite.specs.State.{HasCleanDisk, IsUnchanged}
use Rattle.sqlite.proofs.Callers.{unchanged_then}
use Rattle.sqlite.proofs.StateLemmas.{survives_then}
use Rattle.tables_read.proofs.StepLemmas.{fails_then}
use Rattle.tables_audit.proofs.WholeLemmas.{at_some}
use Rattle.old_book.specs.Books.{IsShownBook}
use Rattle.old_book.specs.Old.{KeepsNoneAs}
use Rattle.old_book.proofs.FoundLemmas.{first_book, no_book, second_book}
use Rattle.old_book.proofs.finding.book_in.Goals as goal

pub returns-in-Some-clause-some : goal.returns-in-Some-clause-some
returns-in-Some-clause-some g c clean =
    first_book c.first.result (state g.S.Store c.args.from.now).now c.in-Some.old c.first.ensures.layout (at_some _ _ c.in-Some.old c.in-Some.is (c.in_ok-old.ensures.some clean))

pub returns-clause-some : goal.returns-clause-some
returns-clause-some g c clean =
    let old = state g.S.Store c.args.from.now in
    let mid = state g.S.Store c.book_as.new.from in
    let early : HasCleanDisk mid = omega (arith, c.book_as-2.ensures.survives.clean, clean) in
    let same : IsUnchanged old mid = c.in_ok-old.ensures.unchanged early in
    IfOk-weaker c.book_as-2.result _ _ (λ o h. IfSome_then o h (λ b shown. second_book c.second.result old.now b c.second.ensures.layout (subst (λ db. IsShownBook c.second.result db b) same.0.now_is shown))) (c.book_as-2.ensures.some clean)

pub returns-clause-none : goal.returns-clause-none
returns-clause-none g c clean =
    let old = state g.S.Store c.args.from.now in
    let mid = state g.S.Store c.book_as.new.from in
    let early : HasCleanDisk mid = omega (arith, c.book_as-2.ensures.survives.clean, clean) in
    let same : IsUnchanged old mid = c.in_ok-old.ensures.unchanged early in
    IfOk-weaker c.book_as-2.result _ _
    (λ o h none. no_book c.first.result c.second.result old.now c.first.ensures.layout c.second.ensures.layout (c.in_ok-old.ensures.none early c.in_default.is) (subst (KeepsNoneAs c.second.result) same.0.now_is (h none)))
    (c.book_as-2.ensures.none clean)

pub returns-clause-unchanged : goal.returns-clause-unchanged
returns-clause-unchanged g c clean =
    let old = state g.S.Store c.args.from.now in
    let mid = state g.S.Store c.book_as.new.from in
    let new = state g.S.Store c.book_as-2.new.from in
    let early : HasCleanDisk mid = omega (arith, c.book_as-2.ensures.survives.clean, clean) in
    on_ok_weaker c.book_as-2.result (λ h. unchanged_then old mid new (c.in_ok-old.ensures.unchanged early) h) (c.book_as-2.ensures.unchanged clean)

pub returns-clause-err : goal.returns-clause-err
returns-clause-err g c clean =
    let old = state g.S.Store c.args.from.now in
    let mid = state g.S.Store c.book_as.new.from in
    let new = state g.S.Store c.book_as-2.new.from in
    let early : HasCleanDisk mid = omega (arith, c.book_as-2.ensures.survives.clean, clean) in
    on_err_weaker c.book_as-2.result (λ h. fails_then old mid new (c.in_ok-old.ensures.unchanged early) h) (c.book_as-2.ensures.err clean)

pub returns-clause-survives : goal.returns-clause-survives
returns-clause-survives g c =
    survives_then (state g.S.Store c.args.from.now) (state g.S.Store c.book_as.new.from) (state g.S.Store c.book_as-2.new.from) (λ _. ⊥) (λ _. ⊥) (λ _. ⊥) (λ _ db h. h) (λ _ db h. h) c.book_as.ensures.survives c.book_as-2.ensures.survives
