use Rattle.std.proofs.Common.{◌≡◌, ◌↔◌, ◌<◌, ℕ, ◌+◌, true≢false, List, map, drop, length, get_or, refl, sym, subst, ◌∙◌, arith}
use Rattle.std.specs.Prelude.{All, Contains}
use Rattle.std.proofs.lemmas.List.{drop_all}
use Rattle.std.proofs.lemmas.List.Elements.{All-nil}
use Rattle.rules.specs.declared.suite.Suite.{Suite}
use Rattle.tables.specs.declared.rows.TextRow.{TextRow}
use Rattle.indices.specs.Indices.{PathText}
use Rattle.tables_meaning.specs.Founding.{from_root}
use Rattle.tables_matching.specs.Rows.{text_in}
use Rattle.tables_audit.specs.TextRows.{texts_in}
use Rattle.tables_audit.proofs.AmongLemmas.{all_next}
use Rattle.tables_audit.proofs.text_rows.have_texts.Goals as goal

abbrev next : (C : PathText → Type 0) (s : Suite) (texts : List TextRow) (i : ℕ) (x : TextRow) → i < length texts → x ≡ get_or texts i x
    → All C (map (from_root s) (map text_in (drop i texts))) ↔ (C (from_root s (text_in x)) × All C (map (from_root s) (map text_in (drop (i + 1) texts))))
next C s texts i x within is = all_next (λ (y : TextRow). from_root s (text_in y)) (λ ys. map (from_root s) (map text_in ys)) (λ y ys. refl) texts i x within is C

pub loop-text-init : goal.loop-text-init
loop-text-init c = (λ all. all, λ all. all)

pub returns-then-not-branch : goal.returns-then-not-branch
returns-then-not-branch c =
    let step = next (Contains (texts_in c.args.rows.now)) c.args.suite.now c.args.texts.now c.loop-text.text-index c.text-item.result (omega (arith, c.loop-text-test.true)) c.text-item.is in (
      λ no. absurd (true≢false (sym no)),
      λ all. absurd (true≢false (sym (c.in_ok-has_text.ensures.1 (step.0 (c.loop-text.invariant.0 all)).0) ∙ c.if-not-branch.true)),
    )

pub loop-text-preserved : goal.loop-text-preserved
loop-text-preserved c =
    let step = next (Contains (texts_in c.args.rows.now)) c.args.suite.now c.args.texts.now c.loop-text.text-index c.text-item.result (omega (arith, c.loop-text-test.true)) c.text-item.is in (
      λ all. (step.0 (c.loop-text.invariant.0 all)).1,
      λ later. c.loop-text.invariant.1 (step.1 (c.in_ok-has_text.ensures.0 c.if-not-branch.false, later)),
    )

pub returns : goal.returns
returns c =
    let C : PathText → Type 0 = Contains (texts_in c.args.rows.now) in (
      λ _. c.loop-text.invariant.1
          (subst (λ ts. All C (map (from_root c.args.suite.now) (map text_in ts))) (sym (drop_all c.loop-text.text-index c.args.texts.now c.loop-text-test.false)) (All-nil C)),
      λ _. refl,
    )
