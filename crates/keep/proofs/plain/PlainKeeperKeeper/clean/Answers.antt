use Rattle.std.proofs.Common.{List, length, ap, ◌∙◌}
use Rattle.book.specs.Book.{Book, at_moment, ended}
use Rattle.keep.specs.Plain.{plain_book}
use Rattle.keep.specs.Scan.{counted}
use Rattle.book.specs.declared.arrival.Arrival.{Arrival}
use Rattle.book.specs.declared.arrival.Counting.{Counting}
use Rattle.keep.proofs.plain.PlainKeeperKeeper.clean.Goals as goal

pub returns-clause-count : goal.returns-clause-count
unfolding plain_book
returns-clause-count c = λ clean.
    c.remove_ended.ensures.count
    ∙ ap (λ (k : Counting). length (ended k.span k.moment c.args.self.now.arrivals.items)) c.new-counting.ensures

pub returns-clause-ok : goal.returns-clause-ok
unfolding plain_book at_moment
returns-clause-ok c = λ clean.
    let with : List Arrival → Book = λ arrivals. record (plain_book c.args.self.now) { arrivals = arrivals } in
    ap with (c.remove_ended.ensures.left ∙ ap (λ (k : Counting). counted k c.args.self.now.arrivals.items) c.new-counting.ensures)
