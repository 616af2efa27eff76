use Rattle.std.proofs.Common.{◌≡◌, ◌∙◌, sym, ap, subst, map, IfOk}
use Rattle.rules.specs.Judgement.{rule_rows, IsPlace}
use Rattle.rules.specs.Sizes.{largest}
use Rattle.rules.specs.Verdicts.{first_row}
use Rattle.rules.specs.declared.verdict.Verdict.TheVariants as verdict
use Rattle.suites.specs.Admission.{MayJoin}
use Rattle.suites.specs.Items.{item_of, standing}
use Rattle.suites.specs.Judging.{IsJudged}
use Rattle.suites.specs.Plan.{IsStep, after_upload}
use Rattle.suites.specs.Shelves.{shown_after, version_of}
use Rattle.suites.specs.Upload.{items_of}
use Rattle.suites.proofs.Joining.{may_join}
use Rattle.suites.proofs.Planned.{refused_by_rules, left_to_lists, refused_step, accepted_after}
use Rattle.suites.proofs.ToldLemmas.{told_after_upload}
use Rattle.suites.proofs.upload_plan.plan_upload.Goals as goal

pub returns-in-Err-clause-verdict : goal.returns-in-Err-clause-verdict
returns-in-Err-clause-verdict c =
    let refused = subst (λ changes. c.in-Err.verdict ≡ first_row (rule_rows c.args.config.now changes)) c.changes.ensures c.in-Err.ensures.refused in
    ap (λ plan. plan.verdict) c.unchanged.ensures ∙ sym (refused_by_rules c.args.config.now c.args.shelves.now c.args.upload.now c.in-Err.verdict refused c.in-Err.ensures.rule)

pub returns-in-Err-clause-step : goal.returns-in-Err-clause-step
returns-in-Err-clause-step c =
    let refused = subst (λ changes. c.in-Err.verdict ≡ first_row (rule_rows c.args.config.now changes)) c.changes.ensures c.in-Err.ensures.refused in
    subst (IsStep c.args.shelves.now (after_upload c.args.config.now c.args.shelves.now c.args.upload.now)) (sym c.unchanged.ensures)
    (refused_step c.args.config.now c.args.shelves.now c.args.upload.now c.in-Err.verdict c.agree.ensures
    (refused_by_rules c.args.config.now c.args.shelves.now c.args.upload.now c.in-Err.verdict refused c.in-Err.ensures.rule) c.in-Err.ensures.rule)

pub plan_admission-requires : goal.plan_admission-requires
plan_admission-requires c =
    let judged = subst (IsJudged (largest c.args.config.now) c.args.shelves.now c.args.upload.now) c.in-Accepted.is (subst (λ most. IsJudged most c.args.shelves.now c.args.upload.now c.in_ok-parts.field-0) c.largest_file.ensures c.in_ok-parts.ensures) in
    let name = c.component_name-component.ensures c.args.upload.now.changes (subst (λ changes. IsPlace c.args.config.now changes c.in-Ok.place) c.changes.ensures c.in-Ok.ensures.place) in
    subst (λ items. MayJoin c.args.shelves.now (map (standing c.in-Ok.place.suite) items))
    (sym (c.in_ok-items-in-Accepted.ensures ∙ ap (λ component. map item_of (items_of (λ e. e.print) c.args.upload.now component)) name))
    (may_join (largest c.args.config.now) c.args.shelves.now c.args.upload.now c.in-Accepted.parts c.in-Ok.place.suite c.agree.ensures c.lists_once.ensures judged.1 judged.0)

pub returns-in_ok-items-in-Accepted-clause-verdict : goal.returns-in_ok-items-in-Accepted-clause-verdict
returns-in_ok-items-in-Accepted-clause-verdict c =
    let judged = subst (IsJudged (largest c.args.config.now) c.args.shelves.now c.args.upload.now) c.in-Accepted.is (subst (λ most. IsJudged most c.args.shelves.now c.args.upload.now c.in_ok-parts.field-0) c.largest_file.ensures c.in_ok-parts.ensures) in
    let rules = subst (λ changes. first_row (rule_rows c.args.config.now changes) ≡ verdict.Accepted) c.changes.ensures c.in-Ok.ensures.accepted in
    subst (λ v. IfOk c.plan_admission.result (λ plan. plan.verdict ≡ v))
    (sym (left_to_lists c.args.config.now c.args.shelves.now c.args.upload.now verdict.Accepted rules judged.0)) c.plan_admission.ensures.verdict

pub returns-in_ok-items-in-Accepted-clause-step : goal.returns-in_ok-items-in-Accepted-clause-step
returns-in_ok-items-in-Accepted-clause-step c =
    let judged = subst (IsJudged (largest c.args.config.now) c.args.shelves.now c.args.upload.now) c.in-Accepted.is (subst (λ most. IsJudged most c.args.shelves.now c.args.upload.now c.in_ok-parts.field-0) c.largest_file.ensures c.in_ok-parts.ensures) in
    let rules = subst (λ changes. first_row (rule_rows c.args.config.now changes) ≡ verdict.Accepted) c.changes.ensures c.in-Ok.ensures.accepted in
    let place = subst (λ changes. IsPlace c.args.config.now changes c.in-Ok.place) c.changes.ensures c.in-Ok.ensures.place in
    let name = c.component_name-component.ensures c.args.upload.now.changes place in
    subst (λ new. IfOk c.plan_admission.result (IsStep c.args.shelves.now new))
    (ap (λ items. shown_after version_of c.args.shelves.now (map (standing c.in-Ok.place.suite) items))
    (c.in_ok-items-in-Accepted.ensures ∙ ap (λ component. map item_of (items_of (λ e. e.print) c.args.upload.now component)) name)
    ∙ sym (accepted_after c.args.config.now c.args.shelves.now c.args.upload.now c.in-Ok.place.suite
    (left_to_lists c.args.config.now c.args.shelves.now c.args.upload.now verdict.Accepted rules judged.0) place.0))
    c.plan_admission.ensures.step

pub returns-in-Refused-clause-verdict : goal.returns-in-Refused-clause-verdict
returns-in-Refused-clause-verdict c =
    let judged = subst (IsJudged (largest c.args.config.now) c.args.shelves.now c.args.upload.now) c.in-Refused.is (subst (λ most. IsJudged most c.args.shelves.now c.args.upload.now c.in_ok-parts.field-0) c.largest_file.ensures c.in_ok-parts.ensures) in
    let rules = subst (λ changes. first_row (rule_rows c.args.config.now changes) ≡ verdict.Accepted) c.changes.ensures c.in-Ok.ensures.accepted in
    ap (λ plan. plan.verdict) c.unchanged-in-Refused.ensures
    ∙ sym (left_to_lists c.args.config.now c.args.shelves.now c.args.upload.now c.in-Refused.verdict rules judged.0)

pub returns-in-Refused-clause-step : goal.returns-in-Refused-clause-step
returns-in-Refused-clause-step c =
    let judged = subst (IsJudged (largest c.args.config.now) c.args.shelves.now c.args.upload.now) c.in-Refused.is (subst (λ most. IsJudged most c.args.shelves.now c.args.upload.now c.in_ok-parts.field-0) c.largest_file.ensures c.in_ok-parts.ensures) in
    let rules = subst (λ changes. first_row (rule_rows c.args.config.now changes) ≡ verdict.Accepted) c.changes.ensures c.in-Ok.ensures.accepted in
    subst (IsStep c.args.shelves.now (after_upload c.args.config.now c.args.shelves.now c.args.upload.now)) (sym c.unchanged-in-Refused.ensures)
    (refused_step c.args.config.now c.args.shelves.now c.args.upload.now c.in-Refused.verdict c.agree.ensures
    (left_to_lists c.args.config.now c.args.shelves.now c.args.upload.now c.in-Refused.verdict rules judged.0) judged.1)

pub returns-in-Err-clause-told : goal.returns-in-Err-clause-told
returns-in-Err-clause-told c = told_after_upload c.args.config.now c.args.shelves.now c.args.upload.now c.lists_once.ensures

pub returns-in_err-items-in-Accepted-clause-told : goal.returns-in_err-items-in-Accepted-clause-told
returns-in_err-items-in-Accepted-clause-told c = told_after_upload c.args.config.now c.args.shelves.now c.args.upload.now c.lists_once.ensures

pub returns-in_ok-items-in-Accepted-clause-told : goal.returns-in_ok-items-in-Accepted-clause-told
returns-in_ok-items-in-Accepted-clause-told c = told_after_upload c.args.config.now c.args.shelves.now c.args.upload.now c.lists_once.ensures

pub returns-in-Refused-clause-told : goal.returns-in-Refused-clause-told
returns-in-Refused-clause-told c = told_after_upload c.args.config.now c.args.shelves.now c.args.upload.now c.lists_once.ensures

pub returns-in_err-parts-clause-told : goal.returns-in_err-parts-clause-told
returns-in_err-parts-clause-told c = told_after_upload c.args.config.now c.args.shelves.now c.args.upload.now c.lists_once.ensures
