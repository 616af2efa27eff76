use Rattle.std.proofs.Common.{◌≡◌, [], ◌∷◌, get_or}
use Rattle.std.proofs.lemmas.Option.{IfSome_then}
use Rattle.std.proofs.lemmas.Result.{IfOk-weaker}
use Rattle.tables.specs.Rows.{rows_of}
use Rattle.old_book.proofs.MetaLemmas.{not_one, one_row, row_of_text, text_of_row}
use Rattle.old_book.proofs.renewed.text_among.Goals as goal

pub returns-clause-some : goal.returns-clause-some
returns-clause-some c =
    let row = get_or c.args.meta.now 0 c.index-meta-0.result in
    let one : rows_of c.args.meta.now ≡ row.1 ∷ [] = one_row c.args.meta.now c.index-meta-0.result c.if-meta-ne1.false in
    IfOk-weaker c.text_in_row.result _ _ (λ o h. IfSome_then o h (λ text is. text_of_row c.args.meta.now row.1 text.items one is)) c.text_in_row.ensures.some

pub returns-clause-none : goal.returns-clause-none
returns-clause-none c =
    let row = get_or c.args.meta.now 0 c.index-meta-0.result in
    let one : rows_of c.args.meta.now ≡ row.1 ∷ [] = one_row c.args.meta.now c.index-meta-0.result c.if-meta-ne1.false in
    IfOk-weaker c.text_in_row.result _ _ (λ o h none text has. h none text (row_of_text c.args.meta.now row.1 text one has)) c.text_in_row.ensures.none

pub returns-then-meta-ne1-clause-none : goal.returns-then-meta-ne1-clause-none
returns-then-meta-ne1-clause-none c none text h = not_one c.args.meta.now c.if-meta-ne1.true text h
