use Rattle.history.proofs.CopiesInARow.{promoted_answers, promoted_book}
use Rattle.history.proofs.laws.a_promotion_is_its_copies.Goals as goal

pub returns-clause-book : goal.returns-clause-book
returns-clause-book c h from to sources moment f t in_time suites = promoted_book h from to sources moment f t in_time suites

pub returns-clause-answers : goal.returns-clause-answers
returns-clause-answers c h from to sources moment f t in_time suites = promoted_answers h from to sources moment f t in_time suites
