use Rattle.std.proofs.Common.{◌≡◌, true}
use Rattle.book.specs.Configured.{configured, keeps_shown}
use Rattle.queue.specs.Archives.{book_of}
use Rattle.promise.proofs.Stops.{OneOrThen, is_left, not_none, one_or_then}
use Rattle.promise.proofs.stop.a_stop_in_a_configuration_goes_on.Goals as goal

pub returns-clause-opens : goal.returns-clause-opens
returns-clause-opens g c before after h config moment found asked may lists none =
    let keeps = keeps_shown config (book_of h) ≡ true in
    not_none found (OneOrThen (book_of h) keeps (configured config moment (book_of h))) (λ left there. one_or_then (book_of h) (configured config moment (book_of h)) keeps left
    (c.a_stop_in_a_configuration_leaves_a_book.ensures before after h config moment asked.was_clean asked.was_open asked.kept asked.clean asked.crash left (found.trees, may, there)))
    lists none

pub returns-clause-book : goal.returns-clause-book
returns-clause-book g c before after h config another moment found b asked may there =
    let keeps = keeps_shown config (book_of h) ≡ true in
    is_left found (OneOrThen (book_of h) keeps (configured config moment (book_of h))) (λ left found_left. one_or_then (book_of h) (configured config moment (book_of h)) keeps left
    (c.a_stop_in_a_configuration_leaves_a_book.ensures before after h config moment asked.was_clean asked.was_open asked.kept asked.clean asked.crash left (found.trees, may, found_left)))
    another b there
