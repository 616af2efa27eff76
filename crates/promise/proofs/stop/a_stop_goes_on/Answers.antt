use Rattle.queue.specs.Answers.{answer}
use Rattle.queue.specs.Archives.{book_of}
use Rattle.queue.specs.Histories.{followed}
use Rattle.tables_meaning.proofs.BookFiles.{finished_files}
use Rattle.promise.proofs.Courses.{faithful_opened}
use Rattle.promise.proofs.Stops.{OneOf, is_left, not_none, one_of}
use Rattle.promise.proofs.stop.a_stop_goes_on.Goals as goal

pub returns-clause-opens : goal.returns-clause-opens
returns-clause-opens g c before after h call found called may lists none =
    not_none found (OneOf (book_of h) (book_of (followed h call (answer h call)))) (λ left keeps. one_of (book_of h) (book_of (followed h call (answer h call))) left
    (c.a_stop_leaves_a_book.ensures before after h call called.was_clean called.was_open called.kept called.faithful called.clean called.crash left (found.trees, may, keeps)))
    lists none

pub returns-clause-book : goal.returns-clause-book
returns-clause-book g c before after h call found config b called may keeps =
    is_left found (OneOf (book_of h) (book_of (followed h call (answer h call)))) (λ left there. one_of (book_of h) (book_of (followed h call (answer h call))) left
    (c.a_stop_leaves_a_book.ensures before after h call called.was_clean called.was_open called.kept called.faithful called.clean called.crash left (found.trees, may, there)))
    config b keeps

pub returns-clause-goes_on : goal.returns-clause-goes_on
returns-clause-goes_on g c found config b calls bodies keeps apart have there = faithful_opened b calls bodies (finished_files found config b keeps) apart have there
