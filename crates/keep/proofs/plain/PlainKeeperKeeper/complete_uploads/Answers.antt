use Rattle.std.proofs.Common.{List, map, filter, ap, ◌∙◌}
use Rattle.suites.specs.Upload.{UploadValue}
use Rattle.book.specs.Book.{at_moment, due, is_complete, span, unjudged, upload_of}
use Rattle.keep.specs.Plain.{plain_book}
use Rattle.keep.specs.Scan.{counted, unjudged_in}
use Rattle.book.specs.declared.arrival.Arrival.{Arrival}
use Rattle.book.specs.declared.arrival.Counting.{Counting}
use Rattle.book.specs.declared.change.Judgement.{Judgement}
use Rattle.book.proofs.Signs.{signs_of}
use Rattle.keep.proofs.plain.PlainKeeperKeeper.complete_uploads.Goals as goal

pub returns-clause-signs : goal.returns-clause-signs
unfolding plain_book at_moment due unjudged
returns-clause-signs c = λ clean.
    let arrivals = c.args.self.now.arrivals.items in
    let counting : Counting = record { span = span c.args.self.now.config; moment = c.args.moment } in
    let complete : List Arrival → List Judgement → List UploadValue = λ all judged. map (upload_of all) (filter (is_complete all) (unjudged_in all judged)) in
    ap (map (λ u. (u.name, u.print)))
    (c.in_ok-complete_uploads.ensures
    ∙ ap (λ (k : Counting). complete (counted k c.deref.result.now) c.deref-2.result.now) c.new-counting.ensures
    ∙ ap (λ all. complete (counted counting all) c.deref-2.result.now) c.deref.ensures.value
    ∙ ap (complete (counted counting arrivals)) c.deref-2.ensures.value)
    ∙ signs_of (counted counting arrivals) _

pub returns-clause-uploads : goal.returns-clause-uploads
unfolding plain_book at_moment due unjudged
returns-clause-uploads c = λ clean bodies apart has.
    let arrivals = c.args.self.now.arrivals.items in
    let counting : Counting = record { span = span c.args.self.now.config; moment = c.args.moment } in
    let complete : List Arrival → List Judgement → List UploadValue = λ all judged. map (upload_of all) (filter (is_complete all) (unjudged_in all judged)) in
    c.in_ok-complete_uploads.ensures
    ∙ ap (λ (k : Counting). complete (counted k c.deref.result.now) c.deref-2.result.now) c.new-counting.ensures
    ∙ ap (λ all. complete (counted counting all) c.deref-2.result.now) c.deref.ensures.value
    ∙ ap (complete (counted counting arrivals)) c.deref-2.ensures.value
