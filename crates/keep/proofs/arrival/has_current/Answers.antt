use Rattle.std.proofs.Common.{ap, ◌∙◌, is_some}
use Rattle.book.specs.Book.{is_arrival_of}
use Rattle.keep.specs.Scan.{counted}
use Rattle.book.proofs.Finds.{is_some_copied, is_some_of_find}
use Rattle.keep.proofs.arrival.has_current.Goals as goal

pub returns : goal.returns
returns c =
    c.is_some.ensures ∙ is_some_copied c.current_arrival.result ∙ ap is_some c.current_arrival.ensures
    ∙ is_some_of_find (is_arrival_of c.args.name.now c.args.print) (counted c.args.counting c.args.arrivals.now)
