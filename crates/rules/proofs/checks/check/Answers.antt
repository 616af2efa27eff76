use Rattle.std.proofs.Common.{sym, ◌∙◌, inr}
use Rattle.rules.proofs.Faults.{missing, bad_value, claimed_twice, bad_rule, limits, faultless}
use Rattle.rules.proofs.checks.check.Goals as goal

pub returns-then-branch-clause-refused : goal.returns-then-branch-clause-refused
returns-then-branch-clause-refused c =
    inr (missing c.args.paragraphs.now (sym c.in_ok-some_lacks_field.ensures.found ∙ c.if-branch.true))

pub returns-then-branch-2-clause-refused : goal.returns-then-branch-2-clause-refused
returns-then-branch-2-clause-refused c =
    inr (bad_value c.args.paragraphs.now (sym c.in_ok-some_lacks_field.ensures.found ∙ c.if-branch.false)
    (sym c.in_ok-have_bad_value.ensures.found ∙ c.if-branch-2.true))

pub returns-then-branch-3-clause-refused : goal.returns-then-branch-3-clause-refused
returns-then-branch-3-clause-refused c =
    inr (claimed_twice c.args.paragraphs.now (sym c.in_ok-some_lacks_field.ensures.found ∙ c.if-branch.false)
    (sym c.in_ok-have_bad_value.ensures.found ∙ c.if-branch-2.false) (sym c.in_ok-two_claim_a_name.ensures.found ∙ c.if-branch-3.true))

pub returns-then-some_has_bad_rule-clause-refused : goal.returns-then-some_has_bad_rule-clause-refused
returns-then-some_has_bad_rule-clause-refused c =
    inr (bad_rule c.args.paragraphs.now (sym c.in_ok-some_lacks_field.ensures.found ∙ c.if-branch.false)
    (sym c.in_ok-have_bad_value.ensures.found ∙ c.if-branch-2.false) (sym c.in_ok-two_claim_a_name.ensures.found ∙ c.if-branch-3.false)
    (sym c.some_has_bad_rule.ensures ∙ c.if-some_has_bad_rule.true))

pub returns-then-branch-4-clause-refused : goal.returns-then-branch-4-clause-refused
returns-then-branch-4-clause-refused c =
    inr (limits c.args.paragraphs.now (sym c.in_ok-some_lacks_field.ensures.found ∙ c.if-branch.false)
    (sym c.in_ok-have_bad_value.ensures.found ∙ c.if-branch-2.false) (sym c.in_ok-two_claim_a_name.ensures.found ∙ c.if-branch-3.false)
    (sym c.some_has_bad_rule.ensures ∙ c.if-some_has_bad_rule.false) (sym c.in_ok-are_over_limits.ensures.found ∙ c.if-branch-4.true))

pub returns-clause-accepted : goal.returns-clause-accepted
returns-clause-accepted c =
    faultless c.args.paragraphs.now (sym c.in_ok-some_lacks_field.ensures.found ∙ c.if-branch.false)
    (sym c.in_ok-have_bad_value.ensures.found ∙ c.if-branch-2.false) (sym c.in_ok-two_claim_a_name.ensures.found ∙ c.if-branch-3.false)
    (sym c.some_has_bad_rule.ensures ∙ c.if-some_has_bad_rule.false) (sym c.in_ok-are_over_limits.ensures.found ∙ c.if-branch-4.false)
