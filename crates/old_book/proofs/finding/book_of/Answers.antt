use Rattle.std.proofs.Common.{◌≡◌, [], true, true≢false, sym, ap, subst, ◌∙◌}
use Rattle.tables_read.specs.All.{tables_with}
use Rattle.tables_audit.proofs.WholeLemmas.{at_some}
use Rattle.tables_audit.specs.Parts.{UploadsFit}
use Rattle.tables_meaning.specs.Kept.{IsBook}
use Rattle.old_book.specs.Old.{HasText}
use Rattle.old_book.specs.Settling.{settled, unjudged, with_meta_row}
use Rattle.old_book.proofs.BookLemmas.{bodies_kept, constrained_rows, no_old_archive, old_archive, rising_rows}
use Rattle.old_book.proofs.RisingLemmas.{if_rising}
use Rattle.old_book.proofs.finding.book_of.Goals as goal

pub returns-in_default-clause-none : goal.returns-in_default-clause-none
returns-in_default-clause-none c none readable config judged shown dates old =
    c.in_ok-text.ensures.none c.in_default.is config.text (subst (λ m. HasText m config.text) (sym c.deref.ensures.value) old.text)

pub returns-then-not-branch-clause-none : goal.returns-then-not-branch-clause-none
returns-then-not-branch-clause-none c none readable config judged shown dates old =
    let t = tables_with c.args.all in
    let fit = c.in_ok-are_listed.ensures.fit c.requires.keys (bodies_kept t config.text config judged shown dates old.kept) in
    absurd (true≢false (sym (fit.1 old.listed) ∙ c.if-not-branch.true))

pub returns-in-None-clause-none : goal.returns-in-None-clause-none
returns-in-None-clause-none c none readable =
    let t = tables_with c.args.all in
    let text = c.in-Some.text.items in
    let rows = tables_with c.in_ok-rows.rows in
    let has : HasText t.meta text = subst (λ m. HasText m text) c.deref.ensures.value (at_some _ _ c.in-Some.text c.in-Some.is c.in_ok-text.ensures.some) in
    let is : rows ≡ with_meta_row text (settled t) = c.in_ok-rows.ensures ∙ ap (λ a. with_meta_row text (settled (tables_with a))) c.in_ok-are_listed.ensures.same in
    no_old_archive t text has rows is readable (c.in_ok-held.ensures.none (constrained_rows t text has rows is c.requires.keys) c.in-None.is)

pub returns-in-Some-2-clause-some : goal.returns-in-Some-2-clause-some
returns-in-Some-2-clause-some c =
    let t = tables_with c.args.all in
    let text = c.in-Some.text.items in
    let held = c.in-Some-2.held in
    let rows = tables_with c.in_ok-rows.rows in
    let has : HasText t.meta text = subst (λ m. HasText m text) c.deref.ensures.value (at_some _ _ c.in-Some.text c.in-Some.is c.in_ok-text.ensures.some) in
    let is : rows ≡ with_meta_row text (settled t) = c.in_ok-rows.ensures ∙ ap (λ a. with_meta_row text (settled (tables_with a))) c.in_ok-are_listed.ensures.same in
    let kept : IsBook rows held.config held.judged.items held.shelves held.dates.items = at_some _ _ held c.in-Some-2.is (c.in_ok-held.ensures.some (constrained_rows t text has rows is c.requires.keys)) in
    let whole = bodies_kept t text held.config held.judged.items held.shelves held.dates.items (subst (λ r. IsBook r held.config held.judged.items held.shelves held.dates.items) is kept) in
    let wants : UploadsFit (unjudged t) [] = (c.in_ok-are_listed.ensures.fit c.requires.keys whole).0 c.if-not-branch.false in
    let old = old_archive t text has rows is held.config held.judged.items held.shelves held.dates.items c.requires.rising wants kept in
    record { archive = old.0; same = old.1 }

pub invariant_of-result : goal.invariant_of-result
invariant_of-result c =
    let t = tables_with c.args.all in
    let text = c.in-Some.text.items in
    let held = c.in-Some-2.held in
    let rows = tables_with c.in_ok-rows.rows in
    let has : HasText t.meta text = subst (λ m. HasText m text) c.deref.ensures.value (at_some _ _ c.in-Some.text c.in-Some.is c.in_ok-text.ensures.some) in
    let is : rows ≡ with_meta_row text (settled t) = c.in_ok-rows.ensures ∙ ap (λ a. with_meta_row text (settled (tables_with a))) c.in_ok-are_listed.ensures.same in
    let kept : IsBook rows held.config held.judged.items held.shelves held.dates.items = at_some _ _ held c.in-Some-2.is (c.in_ok-held.ensures.some (constrained_rows t text has rows is c.requires.keys)) in
    record { kept = ∣ kept ∣₁; rising = if_rising rows (rising_rows t text has rows is c.requires.rising) }
