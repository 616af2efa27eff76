use Rattle.std.proofs.Common.{arith, ◌∙◌, sym, ap}
use Rattle.matchit.specs.Seek.{first}
use Rattle.desk.specs.Want.{asked_by, at_question}
use Rattle.desk.proofs.TextLemmas.{all_bytes, parameters_text}
use Rattle.desk.proofs.WantedLemmas.{key_of}
use Rattle.desk.proofs.head.find_wanted.Goals as goal

pub returns-in_default : goal.returns-in_default
returns-in_default c =
    let none = sym (ap (λ rs. first rs c.args.target.now) c.router.ensures) ∙ c.in_default.ensures.missing in
    ap at_question (rw c.as_bytes.ensures.value at c.in_ok-question.ensures) ∙ sym (ap (asked_by (key_of c.args.desk.now.rules) c.args.target.now) none)

pub read_route-requires-clause-text : goal.read_route-requires-clause-text
read_route-requires-clause-text c =
    let small = all_bytes c.args.target.now (λ i. omega (arith, c.type_inv.target i)) in
    let found = sym (ap (λ rs. first rs c.args.target.now) c.router.ensures) ∙ c.in-Ok.ensures.found in
    rw c.in-Ok.ensures.path (parameters_text c.args.target.now _ small c.utf8.target found)
