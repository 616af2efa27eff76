use Rattle.std.proofs.Common.{◌≡◌, ◌∷◌, ◌++◌, [], ◌+◌, refl, take, drop, sym, ap, subst, subst₂, ◌∙◌}
use Rattle.std.specs.List.{AllZip}
use Rattle.std.proofs.lemmas.List.{append_assoc, take_more, take-append-drop}
use Rattle.tables_read.specs.Layout.{IsNotRead}
use Rattle.tables_read.specs.Reading.{Spells}
use Rattle.old_rows.proofs.RowLemmas.{zip_push}
use Rattle.tables_read.proofs.RowsLemmas.{not_read_among}
use Rattle.old_rows.proofs.shown.all_numbered.Goals as goal

pub loop-row-preserved : goal.loop-row-preserved
loop-row-preserved g c =
    let rows = c.args.rows.now in
    let i = c.loop-row.row-index in
    let row = c.row-item.result in
    let front : take (i + 1) rows ≡ take i rows ++ row ∷ [] = take_more rows i row c.loop-row-test.true ∙ ap (λ r. take i rows ++ r ∷ []) (sym c.row-item.is) in
    let spells = (rw c.in-Some.is at c.in_ok-one.ensures.some).1 in
    subst₂ (AllZip (Spells g.T.Stored.layout.seen)) (sym front) (sym c.in_ok-push-in-Some.ensures.items)
    (zip_push (Spells g.T.Stored.layout.seen) (take i rows) c.loop-row.all.items row c.in-Some.one c.loop-row.invariant spells)

pub returns-in-None-clause-none : goal.returns-in-None-clause-none
returns-in-None-clause-none g c none =
    let rows = c.args.rows.now in
    let i = c.loop-row.row-index in
    let row = c.row-item.result in
    let front : take (i + 1) rows ≡ take i rows ++ row ∷ [] = take_more rows i row c.loop-row-test.true ∙ ap (λ r. take i rows ++ r ∷ []) (sym c.row-item.is) in
    let all : take i rows ++ row ∷ drop (i + 1) rows ≡ rows =
    sym (append_assoc (take i rows) (row ∷ []) (drop (i + 1) rows)) ∙ ap (λ l. l ++ drop (i + 1) rows) (sym front) ∙ take-append-drop (i + 1) rows in
    subst (IsNotRead g.T.Stored.layout g.T.Stored.is_real) all
    (not_read_among g.T.Stored.layout g.T.Stored.is_real (take i rows) row (drop (i + 1) rows) (rw c.in-None.is at c.in_ok-one.ensures.none refl))
