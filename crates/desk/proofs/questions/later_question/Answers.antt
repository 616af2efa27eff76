use Rattle.std.proofs.Common.{◌≡◌, ℕ, List, Option, codes, string_bytes, subst}
use Rattle.std.specs.Option.{option_map}
use Rattle.desk.specs.Request.{Gives}
use Rattle.desk.specs.Want.{by_name, named_question, question_fronts}
use Rattle.telling.specs.Told.{page_of, question_of, suite_page}
use Rattle.desk.proofs.questions.later_question.Goals as goal

pub returns-in-Some : goal.returns-in-Some
returns-in-Some c =
    let found = rw (c.as_slice.ensures, c.as_slice-2.ensures) at c.in-Some.ensures in
    subst (λ (part : Option (List ℕ)). Gives question_of c.suite_question.result
    (λ r. r ≡ by_name part (λ codename. page_of (suite_page codename) (option_map string_bytes c.args.key.now)) (named_question question_fronts c.args.path.now))) found c.suite_question.ensures

pub returns-in-None : goal.returns-in-None
returns-in-None c =
    let found = rw (c.as_slice.ensures, c.as_slice-2.ensures) at c.in-None.ensures in
    subst (λ (part : Option (List ℕ)). Gives question_of c.named_question.result
    (λ r. r ≡ by_name part (λ codename. page_of (suite_page codename) (option_map string_bytes c.args.key.now)) (named_question question_fronts c.args.path.now))) found c.named_question.ensures
