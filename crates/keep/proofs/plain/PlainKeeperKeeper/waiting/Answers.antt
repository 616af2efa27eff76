use Rattle.std.proofs.Common.{List, map, ap, ◌∙◌}
use Rattle.book.specs.Book.{at_moment, span, unjudged, waiting_list, waiting_of}
use Rattle.keep.specs.Plain.{plain_book}
use Rattle.keep.specs.Scan.{counted, unjudged_in}
use Rattle.book.specs.declared.arrival.Arrival.{Arrival}
use Rattle.book.specs.declared.arrival.Counting.{Counting}
use Rattle.book.specs.declared.change.Judgement.{Judgement}
use Rattle.book.specs.declared.change.Waiting.{Waiting}
use Rattle.keep.proofs.plain.PlainKeeperKeeper.waiting.Goals as goal

pub returns-clause-waiting : goal.returns-clause-waiting
unfolding plain_book at_moment waiting_list unjudged
returns-clause-waiting c = λ clean bodies apart has.
    let counting : Counting = record { span = span c.args.self.now.config; moment = c.args.moment } in
    let waiting : Counting → List Arrival → List Judgement → List Waiting = λ k all judged. map (waiting_of all (counted k all)) (unjudged_in (counted k all) judged) in
    c.in_ok-waiting_uploads.ensures
    ∙ ap (λ (k : Counting). waiting k c.deref.result.now c.deref-2.result.now) c.new-counting.ensures
    ∙ ap (λ all. waiting counting all c.deref-2.result.now) c.deref.ensures.value
    ∙ ap (waiting counting c.args.self.now.arrivals.items) c.deref-2.ensures.value
