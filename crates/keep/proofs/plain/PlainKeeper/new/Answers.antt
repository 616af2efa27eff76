use Rattle.std.proofs.Common.{ℕ, List, [], Option, None, length, replicate, ap, ◌∙◌}
use Rattle.std.specs.FinMap.{empty}
use Rattle.suites.specs.Shelves.{ShelvesValue}
use Rattle.book.specs.Book.{Book}
use Rattle.book.specs.Book.{fresh_book}
use Rattle.keep.specs.Plain.{plain_book}
use Rattle.keep.specs.Scan.{body_at}
use Rattle.book.specs.declared.arrival.Arrival.{Arrival}
use Rattle.book.specs.declared.change.Judgement.{Judgement}
use Rattle.keep.proofs.plain.PlainKeeper.new.Goals as goal

pub returns-clause-made : goal.returns-clause-made
unfolding plain_book fresh_book body_at
returns-clause-made c =
    let f : List Arrival → List Judgement → ShelvesValue → (List ℕ → Option (List ℕ)) → List ℕ → Book =
    λ arrivals judged shown files dates. record { config = c.args.config; arrivals = arrivals; judged = judged; shown = shown; files = files; dates = dates } in
    ap (λ xs. f xs c.new-2.result.items c.new-3.result (body_at c.new-4.result.items) c.in_ok-dates.dates.items) c.new.ensures.items
    ∙ ap (λ xs. f [] xs c.new-3.result (body_at c.new-4.result.items) c.in_ok-dates.dates.items) c.new-2.ensures.items
    ∙ ap (λ s. f [] [] s (body_at c.new-4.result.items) c.in_ok-dates.dates.items) c.new-3.ensures
    ∙ ap (λ xs. f [] [] empty (body_at xs) c.in_ok-dates.dates.items) c.new-4.ensures.items
    ∙ ap (f [] [] empty (λ path. None)) (c.in_ok-dates.ensures.items_if_clones_equal (λ y e. e) ∙ ap (λ suites. replicate (length suites) c.args.moment) c.suites.ensures)
