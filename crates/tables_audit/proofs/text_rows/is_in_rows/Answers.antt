use Rattle.std.proofs.Common.{◌≡◌, ◌↔◌, ◌⊎◌, ◌<◌, ℕ, ◌+◌, true≢false, drop, length, get_or, inl, inr, refl, sym, subst, ◌∙◌, arith}
use Rattle.std.specs.Prelude.{Contains}
use Rattle.std.proofs.lemmas.List.{drop_all}
use Rattle.sums.proofs.Members.{no_member}
use Rattle.tables.specs.Rows.{Numbered}
use Rattle.tables.specs.declared.rows.TextRow.{TextRow}
use Rattle.indices.specs.Indices.{PathText}
use Rattle.tables_matching.specs.Rows.{text_in}
use Rattle.tables_audit.specs.TextRows.{texts_in}
use Rattle.tables_audit.proofs.AmongLemmas.{among_next}
use Rattle.tables_audit.proofs.text_rows.is_in_rows.Goals as goal

abbrev next : (rows : Numbered TextRow) (i : ℕ) (x : ℕ × TextRow) (e : PathText) → i < length rows → x ≡ get_or rows i x
    → Contains (texts_in (drop i rows)) e ↔ ((text_in x.1 ≡ e) ⊎ Contains (texts_in (drop (i + 1) rows)) e)
next rows i x e within is = among_next (λ (y : ℕ × TextRow). text_in y.1) texts_in (λ y ys. refl) rows i x within is e

pub loop-row-init : goal.loop-row-init
loop-row-init c = (λ at. at, λ at. at)

pub returns-then-is_text_row : goal.returns-then-is_text_row
returns-then-is_text_row c =
    let e : PathText = (c.args.path.now, c.args.body.now) in
    let step = next c.args.rows.now c.loop-row.row-index c.row-item.result e (omega (arith, c.loop-row-test.true)) c.row-item.is in
    (λ _. c.loop-row.invariant.1 (step.1 (inl (c.is_text_row.ensures.0 c.if-is_text_row.true))), λ _. refl)

pub loop-row-preserved : goal.loop-row-preserved
loop-row-preserved c =
    let e : PathText = (c.args.path.now, c.args.body.now) in
    let step = next c.args.rows.now c.loop-row.row-index c.row-item.result e (omega (arith, c.loop-row-test.true)) c.row-item.is in (
      λ at. elim (step.0 (c.loop-row.invariant.0 at)) [
        | inl own ↦ absurd (true≢false (sym (c.is_text_row.ensures.1 own) ∙ c.if-is_text_row.false))
        | inr later ↦ later
      ],
      λ at. c.loop-row.invariant.1 (step.1 (inr at)),
    )

pub returns : goal.returns
returns c =
    let e : PathText = (c.args.path.now, c.args.body.now) in (
      λ no. absurd (true≢false (sym no)),
      λ at. no_member e (subst (λ rows. Contains (texts_in rows) e) (drop_all c.loop-row.row-index c.args.rows.now c.loop-row-test.false) (c.loop-row.invariant.0 at)),
    )
