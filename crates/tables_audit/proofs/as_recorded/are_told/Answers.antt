use Rattle.std.proofs.Common.{IsTrue, refl, subst, sym, true≢false, ◌∙◌}
use Rattle.std.specs.Prelude.{◌↔◌}
use Rattle.std.specs.List.{AllByRecursion}
use Rattle.tables_audit.specs.Columns.{StandsTold}
use Rattle.tables_audit.proofs.RecordedLemmas.{all_told}
use Rattle.tables_audit.proofs.as_recorded.are_told.Goals as goal

pub loop-key-init : goal.loop-key-init
loop-key-init c =
    let same = c.into_iter-key-iterator.ensures.into_iter_gives.0 ∙ c.items-key-items.ensures in (
      λ h. subst (AllByRecursion (StandsTold c.args.config.now.suites)) same h,
      λ h. subst (AllByRecursion (StandsTold c.args.config.now.suites)) (sym same) h,
    )

pub returns-then-not-branch : goal.returns-then-not-branch
returns-then-not-branch c =
    let P = StandsTold c.args.config.now.suites in
    let tells = subst (λ suites. IsTrue c.in_ok-stands_told.field-0 ↔ StandsTold suites (c.in-Some.key.now, c.in-Some.item.now)) c.suites.ensures c.in_ok-stands_told.ensures in (
      λ yes. absurd (true≢false (sym yes)),
      λ h. absurd (true≢false (sym (tells.1 (subst (AllByRecursion P) c.in-Some.ensures.steps (c.loop-key.invariant.1 ((all_told c.args.config.now.suites c.args.shelves.now).1 h))).0) ∙ c.if-not-branch.true)),
    )

pub loop-key-preserved : goal.loop-key-preserved
loop-key-preserved c =
    let P = StandsTold c.args.config.now.suites in
    let tells = subst (λ suites. IsTrue c.in_ok-stands_told.field-0 ↔ StandsTold suites (c.in-Some.key.now, c.in-Some.item.now)) c.suites.ensures c.in_ok-stands_told.ensures in (
      λ rest. c.loop-key.invariant.0 (subst (AllByRecursion P) (sym c.in-Some.ensures.steps) (tells.0 c.if-not-branch.false, rest)),
      λ all. (subst (AllByRecursion P) c.in-Some.ensures.steps (c.loop-key.invariant.1 all)).1,
    )

pub returns : goal.returns
returns c = (
  λ _. (all_told c.args.config.now.suites c.args.shelves.now).0 (c.loop-key.invariant.0 (subst (AllByRecursion (StandsTold c.args.config.now.suites)) (sym c.in-None.ensures.steps.0) tt)),
  λ _. refl,
)
