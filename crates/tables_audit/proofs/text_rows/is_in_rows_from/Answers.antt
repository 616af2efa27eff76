use Rattle.std.proofs.Common.{ℕ, get_or, refl, sym, ap, subst, arith}
use Rattle.std.specs.Prelude.{Contains}
use Rattle.sums.proofs.Members.{contains_map}
use Rattle.tables.specs.Rows.{Numbered, rows_of}
use Rattle.tables.specs.declared.rows.TextRow.{TextRow}
use Rattle.tables_matching.specs.Rows.{text_in}
use Rattle.tables_audit.specs.TextRows.{texts_in}
use Rattle.tables_audit.proofs.text_rows.is_in_rows_from.Goals as goal

pub returns-then-is_text_row : goal.returns-then-is_text_row
returns-then-is_text_row c =
    let rows : Numbered TextRow = c.args.rows.now in
    let x : ℕ × TextRow = get_or rows c.args.place c.index-rows-place.result in
    let at : Contains rows x = (c.args.place, omega (arith, c.if-place-rows.true), sym (ap (get_or rows c.args.place) c.index-rows-place.is)) in (
      λ _. subst (Contains (texts_in rows)) (c.is_text_row.ensures.0 c.if-is_text_row.true) (contains_map text_in x.1 (rows_of rows) (contains_map (λ (y : ℕ × TextRow). y.1) x rows at)),
      λ _. refl,
    )
