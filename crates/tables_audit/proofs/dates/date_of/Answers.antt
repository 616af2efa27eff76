use Rattle.std.proofs.Common.{◌≡◌, ℕ, true≢false, inl, inr, refl, sym, ap, subst, ◌∙◌, arith}
use Rattle.std.specs.Prelude.{Contains}
use Rattle.std.proofs.lemmas.List.{drop_all}
use Rattle.sums.proofs.Members.{contains_map, no_member}
use Rattle.rules.specs.declared.suite.Suite.{Suite}
use Rattle.tables_meaning.specs.Kept.{date_row}
use Rattle.tables.specs.Rows.{Numbered, rows_of}
use Rattle.tables.specs.declared.rows.Date.{Date}
use Rattle.tables_audit.proofs.AmongLemmas.{among_next}
use Rattle.tables_audit.proofs.dates.date_of.Goals as goal

pub loop-row-init : goal.loop-row-init
loop-row-init c = λ date small at. at

pub returns-then-is_date_of-clause-some : goal.returns-then-is_date_of-clause-some
returns-then-is_date_of-clause-some c =
    let rows : Numbered Date = c.args.rows.now in
    let own = c.is_date_of.ensures.0 c.if-is_date_of.true in
    let at : Contains rows c.row-item.result = (c.loop-row.row-index, omega (arith, c.loop-row-test.true), sym c.row-item.is) in
    (subst (Contains (rows_of rows)) own.0 (contains_map (λ (x : ℕ × Date). x.1) c.row-item.result rows at), own.1)

pub loop-row-preserved : goal.loop-row-preserved
loop-row-preserved c = λ date small at.
    let s : Suite = c.args.suite.now in
    let step = among_next (λ (x : ℕ × Date). x.1) rows_of (λ x xs. refl) c.args.rows.now c.loop-row.row-index c.row-item.result (omega (arith, c.loop-row-test.true)) c.row-item.is (date_row (s, date)) in
    elim (step.0 (c.loop-row.invariant date small at)) [
      | inl own ↦
          let moment : c.row-item.result.1.moment ≡ date = ap (λ (r : Date). r.moment) own in
          absurd (true≢false (sym (c.is_date_of.ensures.1 (own ∙ ap (λ m. date_row (s, m)) (sym moment), omega (arith, moment, small))) ∙ c.if-is_date_of.false))
      | inr later ↦ later
    ]

pub returns-clause-none : goal.returns-clause-none
returns-clause-none c none date small at =
    no_member (date_row (c.args.suite.now, date))
    (subst (λ rows. Contains (rows_of rows) (date_row (c.args.suite.now, date))) (drop_all c.loop-row.row-index c.args.rows.now c.loop-row-test.false) (c.loop-row.invariant date small at))
