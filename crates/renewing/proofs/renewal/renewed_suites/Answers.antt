use Rattle.std.proofs.Common.{◌≡◌, ◌++◌, ◌<◌, ◌≤◌, List, length, slice_get, sym, ap, ◌∙◌, arith}
use Rattle.std.proofs.lemmas.List.{append-nil, drop_all}
use Rattle.book.specs.Book.{Book, text_at}
use Rattle.rules.specs.Values.{ConfigValue}
use Rattle.rules.specs.declared.suite.Suite.{Suite}
use Rattle.suites.proofs.MovedLemmas.{suite_there}
use Rattle.renewing.specs.Renewal.{renewed_from, renewed_suite}
use Rattle.book.proofs.ReadLemmas.{reads_more}
use Rattle.renewing.proofs.RenewedSteps.{touched_suite, untouched_suite}
use Rattle.renewing.proofs.renewal.renewed_suites.Goals as goal
use Rattle.renewing.proofs.renewal.renewed_suites.Goals.{then-some_changes_suite+in_ok-renew_suite, else-some_changes_suite}

pub loop-suite-preserved : goal.loop-suite-preserved
loop-suite-preserved g c =
    let k = g.K.Keeper in
    let before = c.args.keeper.now in
    let now = c.loop-suite.keeper in
    let suites : List Suite = (k.book before).config.suites in
    let i = c.loop-suite.suite in
    let all : c.suites-suite-end.result.now ≡ suites = c.suites-suite-end.ensures ∙ ap (λ (v : ConfigValue). v.suites) c.config.ensures in
    let inside : i < length suites = omega (arith, ap length all, c.loop-suite-test.true) in
    let there = suite_there suites i inside in
    elim c.if-some_changes_suite.branch [
      | then-some_changes_suite+in_ok-renew_suite w ↦
          let one = w.in_ok-renew_suite.ensures in
          let same : k.is_clean w.renew_suite.new.keeper → k.book now ≡ k.book before =
          λ clean. c.loop-suite.invariant.reads.same (one.reads.lasts.clean clean) (one.reads.lasts.was_open clean (one.served clean)) in
          rw (w.keeper-is, w.texts-is) (record {
            reads = reads_more c.loop-suite.invariant.reads one.reads;
            served = λ clean up. one.served clean;
            texts = λ clean.
                touched_suite (text_at (k.book before)) c.args.amendment.now.shelves.now c.args.amendment.now.steps.now c.args.amendment.now.moment suites i inside there.0
                c.loop-suite.texts.items w.renew_suite.new.texts.items there.1
                (sym c.some_changes_suite.ensures ∙ w.if-some_changes_suite.true)
                (one.texts clean there.0 (ap (λ (b : Book). slice_get b.config.suites i) (same clean) ∙ there.1)
                ∙ ap (λ (b : Book). c.loop-suite.texts.items ++ renewed_suite (text_at b) c.args.amendment.now.shelves.now c.args.amendment.now.steps.now c.args.amendment.now.moment i there.0) (same clean))
                (c.loop-suite.invariant.texts (one.reads.lasts.clean clean));
          })
      | else-some_changes_suite w ↦
          rw (w.keeper-is, w.texts-is) (record {
            reads = c.loop-suite.invariant.reads;
            served = c.loop-suite.invariant.served;
            texts = λ clean.
                untouched_suite (text_at (k.book before)) c.args.amendment.now.shelves.now c.args.amendment.now.steps.now c.args.amendment.now.moment suites i inside there.0
                c.loop-suite.texts.items there.1
                (sym c.some_changes_suite.ensures ∙ w.if-some_changes_suite.false)
                (c.loop-suite.invariant.texts clean);
          })
    ]

pub returns-clause-texts : goal.returns-clause-texts
unfolding renewed_from
returns-clause-texts g c clean =
    let k = g.K.Keeper in
    let before = c.args.keeper.now in
    let suites : List Suite = (k.book before).config.suites in
    let i = c.loop-suite.suite in
    let all : c.suites-suite-end.result.now ≡ suites = c.suites-suite-end.ensures ∙ ap (λ (v : ConfigValue). v.suites) c.config.ensures in
    let past : length suites ≤ i = omega (arith, ap length all, c.loop-suite-test.false) in
    sym (append-nil c.loop-suite.texts.items)
    ∙ ap (λ (ss : List Suite). c.loop-suite.texts.items ++ renewed_from (text_at (k.book before)) c.args.amendment.now.shelves.now c.args.amendment.now.steps.now c.args.amendment.now.moment i ss) (sym (drop_all i suites past))
    ∙ c.loop-suite.invariant.texts clean
