use Rattle.std.proofs.Common.{◌≡◌, ◌+◌, if◌then◌else◌, ◌++◌, drop, get_or, ap, ◌∙◌, sym, arith}
use Rattle.std.proofs.lemmas.List.{append-nil}
use Rattle.std.proofs.Math.ListN.{drop_of_length-le}
use Rattle.std.proofs.lemmas.Grind.{common_steps}
use Rattle.std.proofs.lemmas.Bool.{cond-true, cond-false}
use Rattle.book.specs.Scan.{some_touches}
use Rattle.book.proofs.Dates.{dated, dated_step, dates_past-dated}
use Rattle.book.proofs.steps.dates_after.Goals as goal
use Rattle.book.proofs.steps.dates_after.Goals.{then-some_changes_suite, else-some_changes_suite}

pub loop-suite-preserved : goal.loop-suite-preserved
loop-suite-preserved c = record {
  in_range = grind (arith, common_steps);
  after =
      let date : c.if-some_changes_suite.date ≡ (if some_touches c.loop-suite.suite c.args.steps.now then c.args.moment else get_or c.args.dates.now c.loop-suite.suite 0) =
      elim c.if-some_changes_suite.branch [
        | then-some_changes_suite w ↦ w.date-is ∙ (sym (cond-true _ c.args.moment (get_or c.args.dates.now c.loop-suite.suite 0) (sym c.some_changes_suite.ensures ∙ w.if-some_changes_suite.true)))
        | else-some_changes_suite w ↦ w.date-is ∙ (sym (cond-false _ c.args.moment (get_or c.args.dates.now c.loop-suite.suite 0) (sym c.some_changes_suite.ensures ∙ w.if-some_changes_suite.false)))
      ] in
      ap (λ xs. xs ++ dated c.args.moment c.args.steps.now (c.loop-suite.suite + 1) (drop (c.loop-suite.suite + 1) c.args.dates.now)) c.in_ok-push.ensures.items
      ∙ dated_step c.args.moment c.args.steps.now c.args.dates.now c.loop-suite.suite c.loop-suite.after.items c.loop-suite-test.true date c.loop-suite.invariant.after;
}

pub returns-clause-after : goal.returns-clause-after
returns-clause-after c =
    sym (append-nil c.loop-suite.after.items)
    ∙ ap (λ ds. c.loop-suite.after.items ++ dated c.args.moment c.args.steps.now c.loop-suite.suite ds) (sym (drop_of_length-le c.args.dates.now c.loop-suite-test.false))
    ∙ c.loop-suite.invariant.after ∙ sym (dates_past-dated c.args.moment c.args.steps.now c.args.dates.now)
