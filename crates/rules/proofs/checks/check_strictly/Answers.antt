use Rattle.std.proofs.Common.{◌≡◌, sym, ◌∙◌, ap, inr, Some, None, IfOk, IfErr, rules}
use Rattle.rules.specs.Configuration.{config_fault, strict_fault}
use Rattle.rules.proofs.Faults.{strict_missing, strict_bad_value, strict_without}
use Rattle.rules.proofs.checks.check_strictly.Goals as goal

pub returns-then-branch-clause-refused : goal.returns-then-branch-clause-refused
returns-then-branch-clause-refused c =
    inr (strict_missing c.args.paragraphs.now (sym c.in_ok-some_lacks_field.ensures.found ∙ c.if-branch.true))

pub returns-then-have_bad_size-clause-refused : goal.returns-then-have_bad_size-clause-refused
returns-then-have_bad_size-clause-refused c =
    inr (strict_bad_value c.args.paragraphs.now (sym c.in_ok-some_lacks_field.ensures.found ∙ c.if-branch.false)
    (sym c.have_bad_size.ensures ∙ c.if-have_bad_size.true))

pub returns-clause-accepted : goal.returns-clause-accepted
returns-clause-accepted c =
    rw (strict_without c.args.paragraphs.now (sym c.have_bad_size.ensures ∙ c.if-have_bad_size.false)) c.check.ensures.accepted

pub returns-clause-refused : goal.returns-clause-refused
returns-clause-refused c =
    rw (strict_without c.args.paragraphs.now (sym c.have_bad_size.ensures ∙ c.if-have_bad_size.false)) c.check.ensures.refused
