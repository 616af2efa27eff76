use Rattle.std.proofs.Common.{rules, ◌≡◌, ◌≤◌, All, true, true≢false, length, map, IsPermutation, sym, subst, refl, ◌∙◌}
use Rattle.tables.specs.Rows.{rows_of}
use Rattle.tables_read.specs.All.{tables_with}
use Rattle.tables_audit.specs.Whole.{ShownFits}
use Rattle.tables_audit.specs.Parts.{UploadsFit}
use Rattle.std.specs.List.{zip}
use Rattle.book.specs.Book.{latest}
use Rattle.tables_meaning.specs.Kept.{AreSigned, date_row}
use Rattle.tables_audit.proofs.WholeLemmas.{at_some, no_shown, not_signed}
use Rattle.tables_audit.proofs.whole.held_of.Goals as goal

pub returns-then-not-are_signed-clause-none : goal.returns-then-not-are_signed-clause-none
returns-then-not-are_signed-clause-none c keys bodies same readable judged shown dates rest =
    let t = tables_with c.args.all.now in
    let fit : UploadsFit t c.in-Some.judged.items = search rules in
    not_signed t c.args.config c.in-Some.judged.items judged shown dates keys fit rest
    (λ signed. let yes : c.are_signed.result ≡ true = c.are_signed.ensures.1 (subst AreSigned (sym c.deref.ensures.value) signed) in absurd (true≢false (sym yes ∙ c.if-not-are_signed.true)))

pub returns-in_default-3-clause-none : goal.returns-in_default-3-clause-none
returns-in_default-3-clause-none c keys bodies same readable judged shown dates rest =
    let t = tables_with c.args.all.now in
    let found : IsPermutation (rows_of t.dates) (map date_row (zip c.args.config.suites c.in-Some-2.dates.items)) × (length c.in-Some-2.dates.items ≡ length c.args.config.suites) × All (λ d. d ≤ latest) c.in-Some-2.dates.items = search rules in
    no_shown t c.args.config judged shown c.in-Some-2.dates.items dates c.text.ensures.read rest found.0 found.1 (λ s fits. c.in_ok-shelves.ensures.none keys c.in_default-3.is readable s (subst (ShownFits t c.args.config s) (sym c.deref-2.ensures.value) fits))

pub returns-clause-some : goal.returns-clause-some
returns-clause-some c keys bodies =
    let t = tables_with c.args.all.now in
    let uploads : UploadsFit t c.in-Some.judged.items = search rules in
    let found : IsPermutation (rows_of t.dates) (map date_row (zip c.args.config.suites c.in-Some-2.dates.items)) × (length c.in-Some-2.dates.items ≡ length c.args.config.suites) × All (λ d. d ≤ latest) c.in-Some-2.dates.items = search rules in
    let shows : ShownFits t c.args.config c.in-Some-3.shelves c.deref-2.result.now = at_some _ _ (c.in-Some-3.shelves, c.in-Some-3.prints) c.in-Some-3.is (c.in_ok-shelves.ensures.some keys) in
    (refl, record { uploads = uploads; signed = subst AreSigned c.deref.ensures.value (c.are_signed.ensures.0 c.if-not-are_signed.false); date_rows = found.0; dated = found.1; in_range = found.2; shows = subst (ShownFits t c.args.config c.in-Some-3.shelves) c.deref-2.ensures.value shows })

pub returns-clause-printed : goal.returns-clause-printed
returns-clause-printed c = at_some _ _ (c.in-Some-3.shelves, c.in-Some-3.prints) c.in-Some-3.is c.in_ok-shelves.ensures.printed
